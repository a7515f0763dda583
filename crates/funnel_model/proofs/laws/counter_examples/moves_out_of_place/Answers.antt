use Rattle.std.proofs.Common.{◌<◌, [], ◌∷◌, ◌++◌, refl, arith}
use Rattle.std.proofs.lemmas.Bool.{both_ways}
use Rattle.std.proofs.lemmas.List.Elements.{All-head}
use Rattle.funnel_model.specs.declared.bit_list.Bit.{Bit}
use Rattle.funnel_model.specs.declared.event.Event.TheVariants as event
use Rattle.funnel_model.specs.History.{is_live}
use Rattle.funnel_model.specs.Legal.{IsInSlice}
use Rattle.funnel_model.specs.Example.{first_added}
use Rattle.funnel_model.specs.RecycleExample.{paired}
use Rattle.funnel_model.proofs.Histories.{allowed_within}
use Rattle.funnel_model.proofs.laws.counter_examples.moves_out_of_place.Goals as goal

pub returns-clause-absent : goal.returns-clause-absent
returns-clause-absent c legal =
    let before = event.Take 0 0 0 ∷ [] in
    let e = event.Move 0 9 0 0 [] in
    both_ways (is_live 9 before) refl (allowed_within paired (before ++ e ∷ []) before e [] legal refl).rule.present

pub returns-clause-deleted : goal.returns-clause-deleted
returns-clause-deleted c legal =
    let before = first_added ++ event.Del 0 9 ∷ event.Take 0 1 0 ∷ [] in
    let e = event.Move 0 9 1 0 [] in
    both_ways (is_live 9 before) refl (allowed_within paired (before ++ e ∷ []) before e [] legal refl).rule.present

pub returns-clause-untaken : goal.returns-clause-untaken
returns-clause-untaken c legal =
    let before = first_added in
    let e = event.Move 0 9 1 0 [] in
    let other = (allowed_within paired (before ++ e ∷ []) before e [] legal refl).rule.taken in cc

pub returns-clause-other_pass : goal.returns-clause-other_pass
returns-clause-other_pass c legal =
    let before = first_added ++ event.Take 1 1 0 ∷ [] in
    let e = event.Move 0 9 1 0 [] in
    let other = (allowed_within paired (before ++ e ∷ []) before e [] legal refl).rule.taken in cc

pub returns-clause-other_column : goal.returns-clause-other_column
returns-clause-other_column c legal =
    let before = first_added ++ event.Take 0 1 0 ∷ [] in
    let e = event.Move 0 9 0 0 [] in
    let other = (allowed_within paired (before ++ e ∷ []) before e [] legal refl).rule.taken in cc

pub returns-clause-below : goal.returns-clause-below
returns-clause-below c legal =
    let bit : Bit = record { word = 3; bit = 0 } in
    let before = first_added ++ event.Take 0 1 0 ∷ [] in
    let e = event.Move 0 9 1 0 (bit ∷ []) in
    let in' = All-head (λ (b : Bit). IsInSlice 4 1 b.word) bit [] (allowed_within paired (before ++ e ∷ []) before e [] legal refl).rule.inside in
    let from = in'.from in omega arith

pub returns-clause-wide : goal.returns-clause-wide
returns-clause-wide c legal =
    let bit : Bit = record { word = 4; bit = 64 } in
    let before = first_added ++ event.Take 0 1 0 ∷ [] in
    let e = event.Move 0 9 1 0 (bit ∷ []) in
    let in' = All-head (λ (b : Bit). b.bit < 64) bit [] (allowed_within paired (before ++ e ∷ []) before e [] legal refl).rule.in_word in
    omega arith

pub returns-clause-void : goal.returns-clause-void
returns-clause-void c legal =
    let before = first_added in
    let e = event.Void 0 1 0 in
    let other = (allowed_within paired (before ++ e ∷ []) before e [] legal refl).rule.taken in cc
