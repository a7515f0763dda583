use Rattle.std.proofs.Common.{false, List, [], ◌∷◌, Contains, sym, subst, refl, arith}
use Rattle.std.proofs.lemmas.List.Elements.{Contains-append_right}
use Rattle.funnel_model.specs.declared.event.Event.{Event}
use Rattle.funnel_model.specs.declared.event.Event.TheVariants as event
use Rattle.engine.proofs.laws.cleared_slices_are_filled_from_the_first.Goals as goal

pub returns : goal.returns
returns c limits pass replaces id text before after claim clears =
    let take = event.Take pass claim.slice 0 in
    let events = event.Opened pass claim.slice false ∷ take ∷ [] in
    let took : Contains after take =
    subst (λ (h : List Event). Contains h take) (sym clears.opened.made) (Contains-append_right clears.opened.earlier events take (1, omega arith, refl)) in
    (subst (λ n. Contains after (event.Take pass claim.slice n)) (sym clears.first) took, clears.first)
