use Rattle.std.proofs.Common.{[], ◌∷◌, ◌++◌, ⊎_elim, refl, arith}
use Rattle.std.proofs.lemmas.Bool.{both_ways}
use Rattle.funnel_model.specs.declared.call.Call.TheVariants as call
use Rattle.funnel_model.specs.declared.event.Event.TheVariants as event
use Rattle.funnel_model.specs.Example.{first_added}
use Rattle.funnel_model.specs.History.{is_live}
use Rattle.funnel_model.specs.Legal.{IsFull}
use Rattle.funnel_model.specs.RecycleExample.{paired}
use Rattle.funnel_model.specs.Slices.{is_claimed, is_clearing}
use Rattle.funnel_model.proofs.Histories.{allowed_within}
use Rattle.funnel_model.proofs.SpareLemmas.{not_retired}
use Rattle.funnel_model.proofs.laws.counter_examples.calls_refused_for_no_cause.Goals as goal

-- an engine without events has room
not_full : IsFull paired [] → ⊥
not_full full =
    ⊎_elim
    (λ filled. both_ways (is_claimed 0 0 []) refl (filled.0 0 (omega arith)))
    (λ other. ⊎_elim
    (λ guarded. not_retired 1 0 0 [] (omega arith) refl refl guarded.0)
    (λ clearing. both_ways (is_clearing 0 []) refl clearing)
    other)
    (full 0 (omega arith))

pub returns-clause-add : goal.returns-clause-add
returns-clause-add c legal =
    let no = event.No 0 (call.Add 9 []) in
    ⊎_elim
    (λ live. both_ways (is_live 9 []) refl live)
    not_full
    (allowed_within paired (no ∷ []) [] no [] legal refl).rule.refused

pub returns-clause-delete : goal.returns-clause-delete
returns-clause-delete c legal =
    let before = first_added in
    let no = event.No 0 (call.Delete 9) in
    both_ways (is_live 9 before) (allowed_within paired (before ++ no ∷ []) before no [] legal refl).rule.refused refl

pub returns-clause-place : goal.returns-clause-place
returns-clause-place c legal = (allowed_within paired (event.No 0 call.Place ∷ []) [] (event.No 0 call.Place) [] legal refl).rule.refused

pub returns-clause-read : goal.returns-clause-read
returns-clause-read c legal =
    (allowed_within paired (event.Read 0 (call.Delete 9) ∷ []) [] (event.Read 0 (call.Delete 9)) [] legal refl).rule.reads
