use Rattle.std.proofs.Common.{◌≡◌, ◌≤◌, ◌++◌, take, vec_capacity}
use Rattle.line_proto.specs.Texts.{spaced}
use Rattle.line_proto.proofs.reply.push_spaced.Given as goal

abbrev pub invariant-loop-id : goal.invariant-loop-id
invariant-loop-id l =
    (l.out.items ≡ l.fn.out.items ++ spaced (take l.id-index l.ids)) × (vec_capacity l.fn.out ≤ vec_capacity l.out)
