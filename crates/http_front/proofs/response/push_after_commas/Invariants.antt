use Rattle.std.proofs.Common.{◌≡◌, ◌≤◌, ◌++◌, take, vec_capacity}
use Rattle.http_front.specs.Responses.{after_commas}
use Rattle.http_front.proofs.response.push_after_commas.Given as goal

abbrev pub invariant-loop-id : goal.invariant-loop-id
invariant-loop-id l =
    (l.out.items ≡ l.fn.out.items ++ after_commas (take l.id-index l.ids)) × (vec_capacity l.fn.out ≤ vec_capacity l.out)
