-- A pass makes a row word of the slice that it clears zero.
use Rattle.std.proofs.Common.{◌≡◌, ℕ, ◌+◌, ◌<◌, ◌≤◌, ⊎_elim, inl, inr, true, List, ◌∷◌, length, get_or, set, refl, ap, sym, ◌∙◌, subst, arith, get_or-set_same, get_or-set_other}
use Rattle.std.proofs.lemmas.Bool.{both_ways, cases_eq, cases_lt, eq-eqb}
use Rattle.std.proofs.lemmas.List.{length-drop}
use Rattle.std.specs.Int.{IsBitSet}
use Rattle.std.specs.List.{list_any}
use Rattle.std.specs.Prelude.{slice_index, Some}
use mathlib.Core.Option.{none, some}
use lib.ListN.{get_elem?}
use Rattle.atomic_table.specs.Table.{State, Allows, keeps, step}
use Rattle.funnel_model.specs.declared.bit_list.Bit.{Bit}
use Rattle.funnel_model.specs.declared.config.Config.{Config}
use Rattle.funnel_model.specs.declared.event.Event.{Event}
use Rattle.funnel_model.specs.declared.event.Event.TheVariants as event
use Rattle.funnel_model.specs.Events.{clears, fills}
use Rattle.funnel_model.specs.History.{last_by}
use Rattle.funnel_model.specs.Legal.{Limits, IsInSlice, IsLegal}
use Rattle.funnel_model.specs.RowWords.{IsSetIn}
use Rattle.funnel_model.proofs.Clears.{last_by-front}
use Rattle.funnel_model.proofs.LastEvents.{last_is_clearing}
use Rattle.funnel_model.proofs.NextEvents.{clears_in_range}
use Rattle.funnel_model.proofs.RowWords.{covers-cleared, fresh-zeroed, slices_apart}
use Rattle.slice_rule.specs.declared.view.Role.TheVariants as role
use Rattle.slice_rule.specs.declared.view.Fact.TheVariants as fact
use Rattle.slice_rule.specs.declared.view.View.{View}
use Rattle.slice_rule.specs.Numbers.{HasEvent, last_number}
use Rattle.slice_rule.specs.Pools.{first_row, row_words}
use Rattle.slice_rule.specs.Rule.{IsKept, IsKnownSet, IsKnownZero, KnowsByRole}
use Rattle.slice_rule.specs.Tells.{ClearsWord, Seated}
use Rattle.slice_rule.specs.Views.{last_of, pass_of_role, with_own}
use Rattle.slice_rule.specs.Worlds.{made_by}
use Rattle.slice_rule.proofs.Facts.{KeepsFacts, still_set, still_zero}
use Rattle.slice_rule.proofs.Asking.{all_made, front_at}
use Rattle.slice_rule.proofs.Bits.{zero_has_none}
use Rattle.slice_rule.proofs.Owning.{keep-fewer, knows-fewer, knows-own, role-fewer}
use Rattle.slice_rule.proofs.RowChanges.{in_pool, writes_row}
use Rattle.slice_rule.proofs.Since.{comes_later, is_last, none_filled, number-front, one_event}

module _ (limits : Limits) (history : List Event) (rows : List ℕ) (legal : IsLegal limits history) (pass slice : ℕ) (last : last_by pass history ≡ Some (event.Clear pass slice)) where
  -- a Take in the slice was before the Clear, so the slice was cleared since
  cleared_since : (number taker column : ℕ) (take : HasEvent history number (event.Take taker slice column)) → list_any (clears slice) take.later ≡ true
  cleared_since number taker column take =
      let clear = event.Clear pass slice in
      let taken = event.Take taker slice column in
      let is = is_last pass history clear last in
      ⊎_elim
      (λ (less : number < last_number pass history). comes_later (clears slice) history number (last_number pass history) taken clear take is.at less (eq-eqb slice slice refl))
      (λ (least : last_number pass history ≤ number). ⊎_elim
      (λ (less : last_number pass history < number). absurd (both_ways (list_any (fills slice) is.at.later) (none_filled limits history pass slice legal is)
      (comes_later (fills slice) history (last_number pass history) number clear taken is.at take less (eq-eqb slice slice refl))))
      (λ (most : number ≤ last_number pass history).
      let same : number ≡ last_number pass history = omega arith in
      let one = one_event history number taken clear take (subst (λ (k : ℕ). HasEvent history k clear) (sym same) is.at) in
      absurd (let h = one.0 in cc))
      (cases_lt (last_number pass history) number))
      (cases_lt number (last_number pass history))

  module _ (word : ℕ) (inside : IsInSlice limits.slice_words slice word) (small : word < length rows) where
    abbrev less : List ℕ
    less = set rows word 0

    -- each bit outside the slice stays set
    stays_set : (b : Bit) → (IsInSlice limits.slice_words slice b.word → ⊥) → IsSetIn rows b → IsSetIn less b
    stays_set b outside is =
        subst (λ (n : ℕ). IsBitSet n b.bit)
        (sym (get_or-set_other rows word b.word 0 0 (λ same. outside (subst (IsInSlice limits.slice_words slice) (sym same) inside)))) is

    -- no bit is set that wasn't
    was_set : (b : Bit) → IsSetIn less b → IsSetIn rows b
    was_set b is = ⊎_elim
        (λ (same : b.word ≡ word).
        absurd (zero_has_none b.bit (subst (λ (n : ℕ). IsBitSet n b.bit) (get_or-set_same rows word 0 0 small) (subst (λ (w : ℕ). IsBitSet (get_or less w 0) b.bit) same is))))
        (λ (apart : b.word ≡ word → ⊥). subst (λ (n : ℕ). IsBitSet n b.bit) (get_or-set_other rows word b.word 0 0 apart) is)
        (cases_eq b.word word)

    -- and each word stays zero
    stays_zero : (other : ℕ) → slice_index rows other ≡ 0 → slice_index less other ≡ 0
    stays_zero other zero = ⊎_elim
        (λ (same : other ≡ word). subst (λ (w : ℕ). ◌≡◌ {A = ℕ} (get_or less w 0) 0) (sym same) (get_or-set_same rows word 0 0 small))
        (λ (apart : other ≡ word → ⊥). get_or-set_other rows word other 0 0 apart ∙ zero)
        (cases_eq other word)

    keeps_set : (number : ℕ) (b : Bit) → IsKnownSet limits history rows number b → IsKnownSet limits history less number b
    keeps_set number b known = still_set limits known
        (λ set. ⊎_elim
        (λ (same : b.word ≡ word).
        let slices : slice ≡ known.slice = slices_apart limits.slice_words slice known.slice word inside (subst (IsInSlice limits.slice_words known.slice) same known.inside) in
        inr (cleared_in known.slice slices number known.pass known.column known.take))
        (λ (apart : b.word ≡ word → ⊥). inl (subst (λ (n : ℕ). IsBitSet n b.bit) (sym (get_or-set_other rows word b.word 0 0 apart)) set))
        (cases_eq b.word word)) where
          cleared_in : (other : ℕ) → slice ≡ other → (k taker column : ℕ) (take : HasEvent history k (event.Take taker other column)) → list_any (clears other) take.later ≡ true
          cleared_in other same k taker column =
              subst (λ (t : ℕ). (take : HasEvent history k (event.Take taker t column)) → list_any (clears t) take.later ≡ true) same (cleared_since k taker column)

    keeps_zero : (number other : ℕ) → IsKnownZero limits history rows number other → IsKnownZero limits history less number other
    keeps_zero number other known = still_zero limits known (λ zero. inl (stays_zero other zero))

    pub clear_keeps : KeepsFacts limits history rows less
    clear_keeps = record { set = keeps_set; zero = keeps_zero }

    -- the word is known zero under the Clear
    pub clear_known : IsKnownZero limits history less (last_number pass history) word
    clear_known = record {
      pass = pass;
      slice = slice;
      clear = (is_last pass history (event.Clear pass slice) last).at;
      inside = inside;
      zero = inl (get_or-set_same rows word 0 0 small);
    }

module _ (limits : Limits) (config : Config) where
  clears_at : (s : State (Unit {0}) View) (r : IsKept limits config s) (id : ℕ) (v : View) (pass slice word : ℕ) → get_elem? s.views id ≡ some v → v.role ≡ role.Pass pass
      → last_by pass v.front ≡ Some (event.Clear pass slice) → v.asked ≡ made_by pass v.front → IsInSlice limits.slice_words slice word
      → IsKept limits config (record { words = set s.words (first_row limits + word) 0; homes = s.homes; views = set s.views id (with_own v (fact.WordZero (last_number pass v.front) word)) })
  clears_at s r id v pass slice word at is last all inside =
      let history = r.world.history in
      let rows = row_words limits s.words in
      let legal = r.events.legal in
      let goes = front_at limits config s r id v pass at is all in
      let now : last_by pass history ≡ Some (event.Clear pass slice) = last_by-front pass v.front history goes ∙ last in
      let within = in_pool limits slice word (clears_in_range limits history legal pass slice now) inside in
      let laid = r.laid in
      let small : word < length rows = omega (arith, length-drop (first_row limits) s.words) in
      let number = number-front pass v.front history goes in
      let fewer = was_set limits history rows legal pass slice now word inside small in
      let f = fact.WordZero (last_number pass v.front) word in
      writes_row limits config s r id v word 0 f at
      (clear_keeps limits history rows legal pass slice now word inside small)
      (covers-cleared limits rows (set rows word 0) history slice legal (last_is_clearing limits history pass slice legal now)
      (stays_set limits history rows legal pass slice now word inside small) r.covers)
      (keep-fewer limits config history rows (set rows word 0) fewer r.owners)
      (fresh-zeroed limits rows (set rows word 0) history (stays_zero limits history rows legal pass slice now word inside small) r.fresh)
      (subst (λ (k : ℕ). IsKnownZero limits history (set rows word 0) k word) number (clear_known limits history rows legal pass slice now word inside small))
      (subst (KnowsByRole limits config history (set rows word 0) v.asked (f ∷ v.own)) (sym is)
      (knows-own limits config history (set rows word 0) pass v.asked v.own (all_made limits config s r id v pass at is all) f
      (knows-fewer limits config history rows (set rows word 0) pass v.asked v.own fewer (subst (KnowsByRole limits config history rows v.asked v.own) is (r.seats id v at).bits))))
      (λ j w apart there. role-fewer limits config history rows (set rows word 0) w.asked w.own fewer w.role (r.seats j w there).bits)

  pub clears_word : (slots id : ℕ) (me : Seated) (pass slice word : ℕ) → me.0.limits ≡ limits → me.0.role ≡ role.Pass pass
      → last_by pass me.0.front ≡ Some (event.Clear pass slice) → me.0.asked ≡ made_by pass me.0.front → IsInSlice limits.slice_words slice word
      → Allows (IsKept limits config) slots id me (first_row limits + word) (λ _. 0) (λ _. ClearsWord (step slots (first_row limits + word) 0 0 none) me 0)
  clears_word slots id me pass slice word sizes is last all inside s r homes at small =
      let number : last_number pass me.0.front ≡ last_of me.0 = ap (λ p. last_number p me.0.front) (ap pass_of_role (sym is)) in (
        with_own me.0 (fact.WordZero (last_number pass me.0.front) word),
        keeps,
        tt,
        clears_at s r id me.0 pass slice word at is last all inside,
        λ other there.
            let rows = ap (λ (l : Limits). first_row l) sizes in
            let words : word ≡ other = omega arith in
            cc (number, words),
      )
