-- What is kept of the layouts of slices, event by event.
use Rattle.std.proofs.Common.{◌≡◌, ⊎_elim, ℕ, ◌+◌, ◌<◌, true, false, cond, List, [], ◌∷◌, ◌++◌, length, Contains, MatchOption, Option, Some, None, sym, refl, ap, ◌∙◌, subst, append-nil, arith}
use Rattle.std.proofs.lemmas.Bool.{cases_eq, eq-eqb, ne_eqb}
use Rattle.std.proofs.lemmas.List.{length-append}
use Rattle.std.proofs.lemmas.List.Elements.{filter_map-append}
use Rattle.std.specs.List.{cons_option}
use Rattle.std.specs.Prelude.{unwrap_or}
use Rattle.funnel_model.specs.Configuration.{IsInRange}
use Rattle.funnel_model.specs.declared.config.Config.{Config}
use Rattle.funnel_model.specs.declared.event.Event.{Event}
use Rattle.funnel_model.specs.declared.event.Event.TheVariants as event
use Rattle.funnel_model.specs.Events.{clears, tuning_of}
use Rattle.funnel_model.specs.Sizes.{words_of_slice}
use Rattle.funnel_model.specs.Tunings.{current, treat, tunings}
use Rattle.funnel_model.proofs.TuningLemmas.{current-push, treat-push}
use Rattle.row_layout.specs.Layouts.{LayoutId, own_layout}
use Rattle.commit_desk.specs.declared.find_layouts.FindLayout.{FindLayout}
use Rattle.commit_desk.specs.Layouts.{AreFirst, AreLayoutsOf, IsCurrentLayout, IsCurrentOf, IsEntryOf, IsLayoutOf, LayoutsState, SuitsOpening, treatment_number, with_tuning}
use Rattle.commit_desk.specs.Treatments.{IsRenewed}
use Rattle.commit_desk.proofs.TreatmentNumbers.{number-clear, number-quiet}

-- the layout of a configuration in the room of the opening
abbrev pub layout_in : Config → Config → LayoutId
layout_in opening config = record { config = config; room = words_of_slice opening }

-- the treatment of a slice stays with an event that doesn't clear it
treat-quiet : (opening : Config) (slice : ℕ) (history : List Event) (e : Event) → clears slice e ≡ false →
    treat opening slice (history ++ e ∷ []) ≡ treat opening slice history
treat-quiet opening slice history e quiet =
    treat-push opening slice history e ∙ ap (λ b. cond b (current opening history) (treat opening slice history)) quiet

-- and becomes the current configuration with one that does
treat-clear : (opening : Config) (slice : ℕ) (history : List Event) (e : Event) → clears slice e ≡ true →
    treat opening slice (history ++ e ∷ []) ≡ current opening history
treat-clear opening slice history e cleared =
    treat-push opening slice history e ∙ ap (λ b. cond b (current opening history) (treat opening slice history)) cleared

current-quiet : (opening : Config) (history : List Event) (e : Event) → tuning_of e ≡ None → current opening (history ++ e ∷ []) ≡ current opening history
current-quiet opening history e none = current-push opening history e ∙ ap (λ (o : Option Config). unwrap_or o (current opening history)) none

tunings-quiet : (history : List Event) (e : Event) → tuning_of e ≡ None → tunings (history ++ e ∷ []) ≡ tunings history
tunings-quiet history e none =
    filter_map-append tuning_of history (e ∷ []) ∙ ap (λ (o : Option Config). tunings history ++ cons_option o []) none ∙ append-nil (tunings history)

-- a layout stays that of its slice with an event that doesn't clear the slice
layout-push : (opening : Config) (slice : ℕ) (history : List Event) (e : Event) (layout : LayoutId) → clears slice e ≡ false →
    IsLayoutOf opening slice history layout → IsLayoutOf opening slice (history ++ e ∷ []) layout
layout-push opening slice history e layout quiet is = record {
  is = is.is ∙ ap (layout_in opening) (sym (treat-quiet opening slice history e quiet));
  suits = is.suits;
}

-- the current layout is that of a slice which is cleared
layout-clear : (opening : Config) (slice : ℕ) (history : List Event) (e : Event) (layout : LayoutId) → clears slice e ≡ true →
    IsCurrentLayout opening history layout → IsLayoutOf opening slice (history ++ e ∷ []) layout
layout-clear opening slice history e layout cleared is = record {
  is = is.is ∙ ap (layout_in opening) (sym (treat-clear opening slice history e cleared));
  suits = is.suits;
}

-- it stays so with an event that doesn't tune
current_layout-push : (opening : Config) (history : List Event) (e : Event) (layout : LayoutId) → tuning_of e ≡ None →
    IsCurrentLayout opening history layout → IsCurrentLayout opening (history ++ e ∷ []) layout
current_layout-push opening history e layout none is = record {
  is = is.is ∙ ap (layout_in opening) (sym (current-quiet opening history e none));
  suits = is.suits;
}

-- an event that neither tunes nor clears a slice
pub layouts-quiet : (opening : Config) (slices : ℕ) (history : List Event) (e : Event) (kept : LayoutsState) → tuning_of e ≡ None →
    ((slice : ℕ) → clears slice e ≡ false) → AreLayoutsOf opening slices history kept → AreLayoutsOf opening slices (history ++ e ∷ []) kept
layouts-quiet opening slices history e kept none quiet are = record {
  every = are.every;
  within = are.within;
  laid = λ slice entry in'. layout-push opening slice history e entry.layout (quiet slice) (are.laid slice entry in');
  numbered = λ slice entry in'. number-quiet slice history e (quiet slice) ∙ are.numbered slice entry in';
  current = λ layout is. current_layout-push opening history e layout none (are.current layout is);
  tunings_are = are.tunings_are ∙ sym (ap length (tunings-quiet history e none));
}

-- a pass begins to clear a slice
pub layouts-clear : (opening : Config) (slices : ℕ) (history : List Event) (pass s : ℕ) (kept now : LayoutsState) → s < slices → IsRenewed kept s now →
    AreLayoutsOf opening slices history kept → AreLayoutsOf opening slices (history ++ event.Clear pass s ∷ []) now
layouts-clear opening slices history pass s kept now in' renewed are =
    let e = event.Clear pass s in
    let other : (slice : ℕ) → (slice ≡ s → ⊥) → clears slice (event.Clear pass s) ≡ false = λ slice apart. ne_eqb s slice (λ same. apart (sym same)) in
    record {
      every = λ slice below. let was = are.every slice below in renewed.every slice was.0 was.1;
      within = λ slice entry has. ⊎_elim
          (λ (same : slice ≡ s). subst (λ n. n < slices) (sym same) in')
          (λ (apart : slice ≡ s → ⊥). let was = renewed.others slice apart entry has in are.within slice was.0 was.1)
          (cases_eq slice s);
      laid = λ slice entry has. ⊎_elim
          (λ (same : slice ≡ s). subst (λ k. IsLayoutOf opening k (history ++ e ∷ []) entry.layout) (sym same)
          (layout-clear opening s history e entry.layout (eq-eqb s s refl)
          (are.current entry.layout (renewed.laid entry (subst (λ k. IsEntryOf now k entry) same has)))))
          (λ (apart : slice ≡ s → ⊥).
          let was = renewed.others slice apart entry has in
          subst (IsLayoutOf opening slice (history ++ e ∷ [])) (sym was.3) (layout-push opening slice history e was.0.layout (other slice apart) (are.laid slice was.0 was.1)))
          (cases_eq slice s);
      numbered = λ slice entry has. ⊎_elim
          (λ (same : slice ≡ s). subst (λ k. treatment_number k (history ++ e ∷ []) ≡ entry.number) (sym same)
          (number-clear s history e (eq-eqb s s refl) ∙ sym are.tunings_are ∙ sym (renewed.number entry (subst (λ k. IsEntryOf now k entry) same has))))
          (λ (apart : slice ≡ s → ⊥).
          let was = renewed.others slice apart entry has in
          number-quiet slice history e (other slice apart) ∙ are.numbered slice was.0 was.1 ∙ sym was.2)
          (cases_eq slice s);
      current = λ layout is. current_layout-push opening history e layout refl (are.current layout (renewed.current layout is));
      tunings_are = renewed.tunings_are ∙ are.tunings_are ∙ sym (ap length (tunings-quiet history e refl));
    }

-- a pass tunes the engine
pub layouts-tune : (opening : Config) (slices : ℕ) (history : List Event) (pass : ℕ) (config : Config) (kept : LayoutsState) →
    SuitsOpening opening config → AreLayoutsOf opening slices history kept →
    AreLayoutsOf opening slices (history ++ event.Tune pass config ∷ []) (with_tuning kept (Some (layout_in opening config)))
layouts-tune opening slices history pass config kept suits are =
    let e = event.Tune pass config in
    let new : IsCurrentLayout opening (history ++ e ∷ []) (layout_in opening config) = record {
      is = ap (layout_in opening) (sym (current-push opening history e));
      suits = suits;
    } in
    let before : (slice : ℕ) (entry : FindLayout) → IsEntryOf (with_tuning kept (Some (layout_in opening config))) slice entry → IsEntryOf kept slice entry =
    λ slice entry in'. record { among = in'.among; has = in'.has } in
    record {
      every = λ slice below. let was = are.every slice below in (was.0, record { among = was.1.among; has = was.1.has });
      within = λ slice entry in'. are.within slice entry (before slice entry in');
      laid = λ slice entry in'. layout-push opening slice history e entry.layout refl (are.laid slice entry (before slice entry in'));
      numbered = λ slice entry in'. number-quiet slice history e refl ∙ are.numbered slice entry (before slice entry in');
      current = λ layout is. subst (IsCurrentLayout opening (history ++ e ∷ [])) (sym is) new;
      tunings_are = ap (λ n. n + 1) are.tunings_are
          ∙ sym (ap length (filter_map-append tuning_of history (e ∷ [])) ∙ length-append (tunings history) (config ∷ []));
    }

-- before any event each slice has the layout of the opening
pub layouts-new : (opening : Config) (slices : ℕ) (kept : LayoutsState) → IsInRange opening → AreFirst slices (own_layout opening) kept →
    AreLayoutsOf opening slices [] kept
layouts-new opening slices kept in_range first = record {
  every = first.every;
  within = first.within;
  laid = λ slice entry in'. record { is = first.laid entry in'.among; suits = suits_own entry.layout (first.laid entry in'.among) };
  numbered = λ slice entry in'. sym (first.number entry in'.among);
  current = λ layout is. let own = own_is layout is in record { is = own; suits = suits_own layout own };
  tunings_are = first.none_yet;
} where
  suits_own : (layout : LayoutId) → layout ≡ own_layout opening → SuitsOpening opening layout.config
  suits_own layout same = subst (λ (l : LayoutId). SuitsOpening opening l.config) (sym same) (record { sized = refl; in_range = in_range; fits = omega arith })

  own_is : (layout : LayoutId) → IsCurrentOf kept layout → layout ≡ own_layout opening
  own_is layout is =
      let found = subst
      (λ (o : Option LayoutId). MatchOption o ((entry : FindLayout) × Contains kept.treatments entry × (entry.number ≡ kept.tunings) × (layout ≡ entry.layout)) (λ next. layout ≡ next))
      first.none_beside is in
      found.3 ∙ first.laid found.0 found.1

-- what a claim leaves of a layout, and what a Clear makes of the current one, for the pass that has seen the event
module _ (opening : Config) (history front : List Event) (layout : LayoutId) where
  pub laid_after_take : (pass slice column : ℕ) → front ≡ history ++ event.Take pass slice column ∷ [] → IsLayoutOf opening slice history layout → IsLayoutOf opening slice front layout
  laid_after_take pass slice column grown is =
      subst (λ (h : List Event). IsLayoutOf opening slice h layout) (sym grown) (layout-push opening slice history (event.Take pass slice column) layout refl is)

  pub laid_after_clear : (pass slice : ℕ) → front ≡ history ++ event.Clear pass slice ∷ [] → IsCurrentLayout opening history layout → IsLayoutOf opening slice front layout
  laid_after_clear pass slice grown is =
      subst (λ (h : List Event). IsLayoutOf opening slice h layout) (sym grown) (layout-clear opening slice history (event.Clear pass slice) layout (eq-eqb slice slice refl) is)
