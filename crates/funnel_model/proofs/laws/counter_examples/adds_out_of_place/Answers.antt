use Rattle.std.proofs.Common.{◌<◌, [], ◌∷◌, ◌++◌, refl, arith}
use Rattle.std.proofs.lemmas.Bool.{both_ways}
use Rattle.std.proofs.lemmas.List.Elements.{All-head}
use Rattle.funnel_model.specs.declared.bit_list.Bit.{Bit}
use Rattle.funnel_model.specs.declared.event.Event.TheVariants as event
use Rattle.funnel_model.specs.Example.{first_added}
use Rattle.funnel_model.specs.History.{is_live}
use Rattle.funnel_model.specs.Legal.{IsInSlice}
use Rattle.funnel_model.specs.RecycleExample.{paired}
use Rattle.funnel_model.proofs.Histories.{allowed_within}
use Rattle.funnel_model.proofs.laws.counter_examples.adds_out_of_place.Goals as goal

pub returns-clause-bits : goal.returns-clause-bits
returns-clause-bits c legal =
    let bit : Bit = record { word = 4; bit = 0 } in
    let add = event.Add 0 9 [] 0 0 (bit ∷ []) in
    let taken = event.Take 0 0 0 ∷ [] in
    let in' = All-head (λ (b : Bit). IsInSlice 4 0 b.word) bit [] (allowed_within paired (taken ++ add ∷ []) taken add [] legal refl).rule.inside in
    let to = in'.to in omega arith

pub returns-clause-below : goal.returns-clause-below
returns-clause-below c legal =
    let bit : Bit = record { word = 3; bit = 0 } in
    let before = first_added ++ event.Take 0 1 0 ∷ [] in
    let add = event.Add 0 7 [] 1 0 (bit ∷ []) in
    let in' = All-head (λ (b : Bit). IsInSlice 4 1 b.word) bit [] (allowed_within paired (before ++ add ∷ []) before add [] legal refl).rule.inside in
    let from = in'.from in omega arith

pub returns-clause-wide : goal.returns-clause-wide
returns-clause-wide c legal =
    let bit : Bit = record { word = 0; bit = 64 } in
    let taken = event.Take 0 0 0 ∷ [] in
    let add = event.Add 0 9 [] 0 0 (bit ∷ []) in
    let in' = All-head (λ (b : Bit). b.bit < 64) bit [] (allowed_within paired (taken ++ add ∷ []) taken add [] legal refl).rule.in_word in
    omega arith

pub returns-clause-column : goal.returns-clause-column
returns-clause-column c legal =
    let taken = event.Take 0 0 0 ∷ [] in
    let add = event.Add 0 9 [] 1 0 [] in
    let other = (allowed_within paired (taken ++ add ∷ []) taken add [] legal refl).rule.taken in cc

pub returns-clause-dropped : goal.returns-clause-dropped
returns-clause-dropped c legal =
    let taken = event.Take 0 0 0 ∷ [] in
    let drop = event.Drop 0 9 [] 0 0 in
    both_ways (is_live 9 taken) refl (allowed_within paired (taken ++ drop ∷ []) taken drop [] legal refl).rule.present

pub returns-clause-absent : goal.returns-clause-absent
returns-clause-absent c legal =
    let before = first_added in
    both_ways (is_live 7 before) refl (allowed_within paired (before ++ event.Del 0 7 ∷ []) before (event.Del 0 7) [] legal refl).rule.present
