use Rattle.std.proofs.Common.{false, ◌∷◌, arith}
use Rattle.std.proofs.lemmas.Grind.{common_steps}
use Rattle.std.proofs.lemmas.List.Folds.{length-flat_map-take}
use Rattle.funnel_model.specs.declared.commit.Commit.{Commit}
use Rattle.http_front.specs.Responses.{commit_body}
use Rattle.http_front.proofs.texts.push_later_commits.Goals as goal

pub returns-in_err-push_later_commit-clause-full : goal.returns-in_err-push_later_commit-clause-full
returns-in_err-push_later_commit-clause-full c =
    let fits =
    length-flat_map-take (λ (other : Commit). 44 ∷ commit_body other) c.args.commits.now c.loop-commit.commit-index (record { add = false; id = 0 }) c.loop-commit-test.true in
    grind (arith, common_steps)
