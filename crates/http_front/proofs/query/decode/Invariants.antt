use Rattle.std.proofs.Common.{◌≡◌, ◌+◌, ◌≤◌, ◌++◌, length, option_map, vec_len, vec_capacity}
use Rattle.http_front.specs.Queries.{decoded, plain}
use Rattle.http_front.proofs.query.decode.Given as goal

abbrev pub invariant-loop-left : goal.invariant-loop-left
invariant-loop-left l = record {
  decoded : decoded plain l.value ≡ option_map (λ bytes. l.text.items ++ bytes) (decoded plain l.left);
  fits : vec_len l.text + length l.left ≤ vec_capacity l.text;
  room : vec_capacity l.fn.text ≤ vec_capacity l.text;
}

abbrev pub decreases-loop-left : goal.decreases-loop-left
decreases-loop-left l = length l.left
