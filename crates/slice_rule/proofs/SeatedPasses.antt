-- Each pass has one seat, and at most one event outstanding.
use Rattle.std.proofs.Common.{◌≡◌, ◌+◌, ◌≤◌, ◌⊎◌, inl, inr, List, [], ◌∷◌, ◌++◌, length, ap, sym, ◌∙◌, subst, arith, length-append}
use Rattle.std.proofs.lemmas.List.{append-nil}
use Rattle.funnel_model.specs.declared.event.Event.{Event}
use Rattle.slice_rule.specs.SeatedPasses.{PassesHaveOneSeatEach}
use Rattle.slice_rule.specs.Worlds.{LacksAtMostOne, made_by}
use Rattle.slice_rule.proofs.Asking.{pass_at}

-- what is left of a list whose beginning lacks at most one
at_most_one : (made rest asked : List Event) → made ++ rest ≡ asked → length asked ≤ length made + 1 → (asked ≡ made) ⊎ ((e : Event) × (asked ≡ made ++ e ∷ []))
at_most_one made [] asked is few = inl (sym is ∙ append-nil made)
at_most_one made (e ∷ []) asked is few = inr (e, sym is)
at_most_one made (e ∷ f ∷ more) asked is few = absurd (omega (arith, ap length is, length-append made (e ∷ f ∷ more)))

pub passes_have_one_seat_each : PassesHaveOneSeatEach
passes_have_one_seat_each limits config s r = record {
  seated = λ pass small.
      let last = r.passes.all_but_last in
      (r.world.seat pass, r.given.passes pass (omega arith));
  one = λ pass id other is also.
      (pass_at limits config s r id is.view pass is.at is.kind).one ∙ sym (pass_at limits config s r other also.view pass also.at also.kind).one;
  outstanding = λ pass id v at is.
      let mine = pass_at limits config s r id v pass at is in
      let lacks = subst (LacksAtMostOne (made_by pass v.front)) (sym mine.all) mine.seen in
      at_most_one (made_by pass v.front) lacks.begins.0 v.asked lacks.begins.1 lacks.few;
}
