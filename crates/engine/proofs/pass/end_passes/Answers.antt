use Rattle.std.proofs.Common.{◌≡◌, List, [], ◌∷◌, ◌++◌, length, refl, sym, ap, ◌∙◌, subst, arith, rules}
use Rattle.std.specs.List.{All}
use Rattle.engine.specs.Engines.{EndsIn}
use Rattle.engine.specs.Passes.{PassView}
use Rattle.engine.proofs.pass.end_passes.Goals as goal

without_any : (passes : List PassView) → length passes ≡ 0 → passes ≡ []
without_any [] none = refl
without_any (pass ∷ passes) none = absurd (omega (arith, none))

pub returns-clause-passes : goal.returns-clause-passes
returns-clause-passes g c =
    let done = c.loop-pass.invariant.done in
    let none = c.in_default.ensures.cases.0 in
    let count : length c.loop-pass.passes.items ≡ 0 = search (rules, none) in
    let empty = without_any c.loop-pass.passes.items count in
    let all : c.args.passes.items ≡ done.0 = done.1 ∙ ap (λ (xs : List PassView). xs ++ done.0) empty in
    subst (All (EndsIn c.args.home.now.history)) (sym all) done.2
