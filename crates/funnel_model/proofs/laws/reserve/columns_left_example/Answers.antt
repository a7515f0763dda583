use Rattle.std.proofs.Common.{List, [], ◌∷◌, refl, arith, inl}
use Rattle.funnel_model.specs.declared.event.Event.{Event}
use Rattle.funnel_model.specs.declared.event.Event.TheVariants as event
use Rattle.funnel_model.specs.Reserve.{HasReadyIn, HasSpareIn}
use Rattle.funnel_model.proofs.ExampleLemmas.{total_of_two}
use Rattle.funnel_model.proofs.SpareLemmas.{room_by}
use Rattle.funnel_model.proofs.laws.reserve.columns_left_example.Goals as goal

pub returns-clause-new : goal.returns-clause-new
returns-clause-new c =
    let first = (room_by 3 0 2 [] (omega arith) refl refl refl refl).in_use in
    let second = (room_by 3 1 2 [] (omega arith) refl refl refl refl).in_use in
    (total_of_two (HasSpareIn 3 []) 3 3 (inl (first, refl)) (inl (second, refl)), total_of_two (HasReadyIn 3 []) 3 3 (inl (first, refl)) (inl (second, refl)))

abbrev taken : List Event
taken = event.Take 0 0 0 ∷ []

pub returns-clause-taken : goal.returns-clause-taken
returns-clause-taken c =
    let first = (room_by 3 0 2 taken (omega arith) refl refl refl refl).in_use in
    let second = (room_by 3 1 2 taken (omega arith) refl refl refl refl).in_use in
    (total_of_two (HasSpareIn 3 taken) 2 3 (inl (first, refl)) (inl (second, refl)), total_of_two (HasReadyIn 3 taken) 2 3 (inl (first, refl)) (inl (second, refl)))
