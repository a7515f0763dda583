-- What is handed back when a slice is cleared and when the engine is tuned, by the history.
use Rattle.std.proofs.Common.{◌≡◌, ⊎_elim, inl, inr, ℕ, List, Contains, MatchOption, Option, Some, None, sym, refl, ◌∙◌, subst}
use Rattle.funnel_model.specs.declared.event.Event.{Event}
use Rattle.row_layout.specs.Layouts.{LayoutId}
use Rattle.slice_rule.specs.Pools.{PoolId}
use Rattle.commit_desk.specs.declared.find_layouts.FindLayout.{FindLayout}
use Rattle.commit_desk.specs.Layouts.{AreLayoutsOf, HandsBackOld, HandsBackUnused, IsEntryOf, IsLayoutOf, IsTreatedNow, LayoutsState}
use Rattle.commit_desk.specs.Treatments.{EndsEntry, EndsNoEntry, IsBesideWhereUnused}

module _ (pool : PoolId) (history : List Event) (kept : LayoutsState) (are : AreLayoutsOf pool.config pool.limits.slices history kept) where
  -- a slice has the current treatment where its entry has the number of the last tuning, and nowhere else
  treated_now : (slice : ℕ) (entry : FindLayout) → IsEntryOf kept slice entry → entry.number ≡ kept.tunings → IsTreatedNow history slice
  treated_now slice entry in' last = are.numbered slice entry in' ∙ last ∙ are.tunings_are

  number_is : (slice : ℕ) (entry : FindLayout) → IsEntryOf kept slice entry → IsTreatedNow history slice → entry.number ≡ kept.tunings
  number_is slice entry in' now = sym (are.numbered slice entry in') ∙ now ∙ sym are.tunings_are

  pub handed_by_clear : (slice : ℕ) (old : Option LayoutId) → MatchOption old (EndsNoEntry kept slice) (EndsEntry kept slice) → HandsBackOld pool history slice old
  handed_by_clear slice None none = record {
    still = ⊎_elim
        (λ (last : none.entry.number ≡ kept.tunings). inl (treated_now slice none.entry none.of_slice last))
        (λ (more : (other : ℕ) × (other ≡ slice → ⊥) × Contains none.entry.slices other).
        let in' : IsEntryOf kept more.0 none.entry = record { among = none.of_slice.among; has = more.2 } in
        inr (more.0, are.within more.0 none.entry in', more.1, are.numbered more.0 none.entry in' ∙ sym (are.numbered slice none.entry none.of_slice)))
        none.still;
  }
  handed_by_clear slice (Some layout) one = record {
    older = λ now. one.older (number_is slice one.entry one.of_slice now);
    alone = λ other below same.
        let there = are.every other below in
        one.alone other there.0 there.1 (sym (are.numbered other there.0 there.1) ∙ same ∙ are.numbered slice one.entry one.of_slice);
    laid = subst (IsLayoutOf pool.config slice history) (sym one.laid) (are.laid slice one.entry one.of_slice);
  }

  pub handed_by_tune : (unused : Option LayoutId) → unused ≡ kept.next → IsBesideWhereUnused kept unused → HandsBackUnused pool history unused
  handed_by_tune None is some = (some.0, are.within some.0 some.1 some.2, treated_now some.0 some.1 some.2 some.3)
  handed_by_tune (Some layout) is none = record {
    current = are.current layout
        (subst
        (λ (o : Option LayoutId). MatchOption o ((entry : FindLayout) × Contains kept.treatments entry × (entry.number ≡ kept.tunings) × (layout ≡ entry.layout)) (λ next. layout ≡ next))
        is refl);
    unused = λ slice below now. let there = are.every slice below in none slice there.0 there.1 (number_is slice there.0 there.1 now);
  }
