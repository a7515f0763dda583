use Rattle.std.proofs.Common.{◌≡◌, ◌≤◌, ◌++◌, flat_map, take, vec_capacity}
use Rattle.json.specs.Print.{escape_byte}
use Rattle.http_front.proofs.texts.push_escaped.Given as goal

abbrev pub invariant-loop-byte : goal.invariant-loop-byte
invariant-loop-byte l =
    (l.out.items ≡ l.fn.out.items ++ flat_map escape_byte (take l.byte-index l.text)) × (vec_capacity l.fn.out ≤ vec_capacity l.out)
