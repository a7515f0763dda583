use Rattle.std.proofs.Common.{false, [], ◌∷◌, ◌++◌, ⊎_elim, refl, arith}
use Rattle.funnel_model.specs.declared.event.Event.TheVariants as event
use Rattle.funnel_model.specs.RecycleExample.{paired, unguarded}
use Rattle.funnel_model.proofs.Histories.{allowed_within}
use Rattle.funnel_model.proofs.NextEvents.{busy}
use Rattle.funnel_model.proofs.laws.counter_examples.passes_out_of_turn.Goals as goal

pub returns-clause-unknown : goal.returns-clause-unknown
returns-clause-unknown c legal =
    let in' = (allowed_within paired (event.Find 2 [] ∷ []) [] (event.Find 2 []) [] legal refl).pass in omega arith

pub returns-clause-twice : goal.returns-clause-twice
returns-clause-twice c legal =
    let before = event.Take 0 0 0 ∷ [] in
    ⊎_elim
    (λ r. busy 0 before (event.Take 0 0 0) refl refl r.idle)
    (λ r. let other = r.opened in cc)
    (allowed_within paired (before ++ event.Take 0 1 0 ∷ []) before (event.Take 0 1 0) [] legal refl).rule

pub returns-clause-finding : goal.returns-clause-finding
returns-clause-finding c legal =
    let before = event.Find 0 [] ∷ [] in
    ⊎_elim
    (λ r. busy 0 before (event.Find 0 []) refl refl r.idle)
    (λ r. let other = r.opened in cc)
    (allowed_within paired (before ++ event.Take 0 0 0 ∷ []) before (event.Take 0 0 0) [] legal refl).rule

pub returns-clause-unbegun : goal.returns-clause-unbegun
returns-clause-unbegun c legal =
    let none = (allowed_within paired (event.End 0 ∷ []) [] (event.End 0) [] legal refl).rule.begun in cc

pub returns-clause-other_end : goal.returns-clause-other_end
returns-clause-other_end c legal =
    let before = event.Find 1 [] ∷ [] in
    let none = (allowed_within paired (before ++ event.End 0 ∷ []) before (event.End 0) [] legal refl).rule.begun in cc

pub returns-clause-opening : goal.returns-clause-opening
returns-clause-opening c idle = cc

pub returns-clause-between : goal.returns-clause-between
returns-clause-between c legal =
    let before = unguarded ++ event.Clear 0 0 ∷ event.Opened 0 0 false ∷ [] in
    let other = (allowed_within paired (before ++ event.Find 1 [] ∷ []) before (event.Find 1 []) [] legal refl).at_once in cc
