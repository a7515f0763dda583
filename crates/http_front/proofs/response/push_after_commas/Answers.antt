use Rattle.std.proofs.Common.{ℕ, ◌∷◌, decimal, arith}
use Rattle.std.proofs.lemmas.Grind.{common_steps}
use Rattle.std.proofs.lemmas.List.Folds.{length-flat_map-take}
use Rattle.http_front.proofs.response.push_after_commas.Goals as goal

pub returns-in_err-push_after_comma-clause-full : goal.returns-in_err-push_after_comma-clause-full
returns-in_err-push_after_comma-clause-full c =
    let fits = length-flat_map-take (λ (id : ℕ). 44 ∷ decimal id) c.args.ids.now c.loop-id.id-index 0 c.loop-id-test.true in
    grind (arith, common_steps)
