use Rattle.std.proofs.Common.{◌≡◌, ◌≤◌, ◌++◌, ◌∷◌, flat_map, take, vec_capacity}
use Rattle.funnel_model.specs.declared.commit.Commit.{Commit}
use Rattle.http_front.specs.Responses.{commit_body}
use Rattle.http_front.proofs.texts.push_later_commits.Given as goal

abbrev pub invariant-loop-commit : goal.invariant-loop-commit
invariant-loop-commit l =
    (l.out.items ≡ l.fn.out.items ++ flat_map (λ (other : Commit). 44 ∷ commit_body other) (take l.commit-index l.commits)) × (vec_capacity l.fn.out ≤ vec_capacity l.out)
