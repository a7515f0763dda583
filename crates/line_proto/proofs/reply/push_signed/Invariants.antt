use Rattle.std.proofs.Common.{◌≡◌, ◌≤◌, ◌++◌, flat_map, take, vec_capacity}
use Rattle.line_proto.specs.Texts.{signed}
use Rattle.line_proto.proofs.reply.push_signed.Given as goal

abbrev pub invariant-loop-commit : goal.invariant-loop-commit
invariant-loop-commit l =
    (l.out.items ≡ l.fn.out.items ++ flat_map signed (take l.commit-index l.commits)) × (vec_capacity l.fn.out ≤ vec_capacity l.out)
