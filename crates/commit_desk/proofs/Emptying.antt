-- How many columns are spare, ready and held, by what is kept of the slices.
use Rattle.std.proofs.Common.{◌≡◌, ⊎_elim, inl, inr, ℕ, zero, suc, ◌+◌, ◌-◌, ◌<◌, ◌≤◌, Bool, true, false, not, ◌&&◌, cond, List, [], ◌∷◌, length, get_or, take, map, count_by, Option, Some, None, sym, refl, ap, ◌∙◌, subst, add-one, ltb-false, ltb-true, arith}
use Rattle.std.proofs.lemmas.Bool.{both_ways, cases_lt, false_from_ne_true, false≢true, true_from_ne_false}
use Rattle.std.proofs.lemmas.Bool.Decides.{leb_tells}
use Rattle.std.proofs.lemmas.List.{get_or-map, get_or_past, length-map, take_all}
use Rattle.std.proofs.lemmas.List.Sums.{sum_by-cons, sum_by_more}
use Rattle.std.specs.List.{list_any, range_with_len, sum, sum_by}
use Rattle.std.specs.Prelude.{MatchOption, ◌==◌}
use Rattle.document_store.proofs.SlotLemmas.{length-slots_of, slot_at-slots_of}
use Rattle.document_store.specs.Slots.{IsColumn, Table, free_slot, slot_at, slots_of, is_over}
use Rattle.document_store.specs.declared.slots.Slot.{Slot}
use Rattle.funnel_model.specs.Blocks.{IsHeld}
use Rattle.funnel_model.specs.declared.event.Event.{Event}
use Rattle.funnel_model.specs.Legal.{IsLegal, Limits}
use Rattle.funnel_model.specs.Reserve.{CanBeEmptied, HasReadyColumns, HasReadyIn, HasSpareColumns, HasSpareIn, HoldsColumns, IsSource, unclaimed_in}
use Rattle.funnel_model.specs.Slices.{AllOver, ColumnState, Deleted, Dropped, Live, Pending, Unclaimed, IsFilled, IsInState, IsOver, claimed, is_claimed, is_clearing}
use Rattle.funnel_model.proofs.Blocks.{by_is_clearing}
use Rattle.funnel_model.proofs.Claims.{claimed_in_range}
use Rattle.funnel_model.proofs.ClaimLemmas.{any_in_range, filled_by, none_in_range, unclaimed_next}
use Rattle.funnel_model.proofs.Columns.{clearing_is_over, one_state, some_state}
use Rattle.funnel_model.proofs.Ranges.{counted_more, none_counted}
use Rattle.funnel_model.proofs.ReserveLemmas.{emptied_holds, one_held_count}
use Rattle.slice_stages.specs.Stages.{StageTable, IsUsed, empty_stage, held_in, ready_in, ready_of, spare_in, spare_of, stage_of}
use Rattle.slice_stages.specs.declared.stage.Stage.{Stage}
use Rattle.slice_stages.specs.declared.stage.Stage.TheVariants as stage
use Rattle.commit_desk.specs.Kept.{AreStages, AreTokens, IsAtStage, IsNextMark, IsUsedSlice}
use Rattle.commit_desk.specs.Moving.{HasLive, IsPartlyHeld, is_fewer}
use Rattle.commit_desk.specs.Records.{AreRecorded, state_of}
use Rattle.commit_desk.proofs.Marks.{after_mark, by_mark}
use Rattle.commit_desk.proofs.Slots.{column_by_over}
use Rattle.commit_desk.proofs.StageFacts.{in_table, retired_since, state_is, used_by_stage}
use Rattle.commit_desk.proofs.StageReadings.{none_left, not_over_by_state}

-- ---- sums

pub sum-map : {X : Type 0} → (f : X → ℕ) (xs : List X) → sum (map f xs) ≡ sum_by f xs
sum-map f [] = refl
sum-map f (x ∷ xs) = sum_by-cons (λ (n : ℕ). n) (f x) (map f xs) ∙ ap (λ n. f x + n) (sum-map f xs) ∙ sym (sum_by-cons f x xs)

-- the columns past the first ones, which are claimed
pub unclaimed_past : (slice first : ℕ) (history : List Event) → claimed slice history ≡ range_with_len 0 first → (n : ℕ) → unclaimed_in n slice history ≡ n - first
unclaimed_past slice first history claims zero = omega arith
unclaimed_past slice first history claims (suc n) =
    let before = unclaimed_past slice first history claims n in
    let more = counted_more (λ column. not (is_claimed slice column history)) n in
    ⊎_elim
    (λ (taken : n < first).
    let is : is_claimed slice n history ≡ true = ap (list_any (λ k. k == n)) claims ∙ any_in_range 0 first n (omega arith) (omega arith) in
    let none : cond {A = ℕ} (not (is_claimed slice n history)) 1 0 ≡ 0 = ap (λ b. cond {A = ℕ} (not b) 1 0) is in
    omega (arith, before, more, none, taken))
    (λ (left : first ≤ n).
    let is : is_claimed slice n history ≡ false = ap (list_any (λ k. k == n)) claims ∙ none_in_range 0 first n (omega arith) in
    let one : cond {A = ℕ} (not (is_claimed slice n history)) 1 0 ≡ 1 = ap (λ b. cond {A = ℕ} (not b) 1 0) is in
    omega (arith, before, more, one, left))
    (cases_lt n first)

-- of the first slots those that are over and the others are all
over_and_others : (xs : List Slot) (n : ℕ) → n ≤ length xs → count_by (λ c. not (is_over (get_or xs c free_slot))) (range_with_len 0 n) + count_by is_over (take n xs) ≡ n
over_and_others xs zero within = omega arith
over_and_others xs (suc n) within =
    let before = over_and_others xs n (omega (arith, within)) in
    let others = counted_more (λ c. not (is_over (get_or xs c free_slot))) n in
    let over : count_by is_over (take (suc n) xs) ≡ count_by is_over (take n xs) + cond (is_over (get_or xs n free_slot)) 1 0 =
    ap (λ k. count_by is_over (take k xs)) (sym (add-one n)) ∙ sum_by_more (λ x. cond (is_over x) 1 0) xs n free_slot (omega (arith, within)) in
    let one = either (is_over (get_or xs n free_slot)) in
    omega (arith, before, others, over, one) where
      either : (b : Bool) → cond {A = ℕ} (not b) 1 0 + cond {A = ℕ} b 1 0 ≡ 1
      either true = refl
      either false = refl

module _ (limits : Limits) (history : List Event) (table : Table) (tokens : List (Option ℕ)) (stages : StageTable) (legal : IsLegal limits history) (recorded : AreRecorded limits history table) (staged : AreStages limits history table tokens stages) where
  -- each slice is as far as it is kept to be
  at_stage : (slice : ℕ) → slice < limits.slices → IsAtStage limits.columns history table slice (stage_of stages slice)
  at_stage slice in' = staged.each slice in'

  -- ---- spare and ready columns

  spare_by : (slice : ℕ) → slice < limits.slices → (s : Stage) → IsAtStage limits.columns history table slice s → HasSpareIn limits.columns history slice (spare_in limits.columns s)
  spare_by slice in' (stage.InUse first over) at =
      inl (used_by_stage limits history table legal recorded slice in' (stage.InUse first over) at tt, sym (unclaimed_past slice first history at.claims limits.columns))
  spare_by slice in' (stage.Retired number) at = inr (inl (retired_since limits.columns slice number history at), refl)
  spare_by slice in' (stage.Clearing pass) at = inr (inr (by_is_clearing pass slice history at), refl)

  pub spare_kept : HasSpareColumns limits history (spare_of stages)
  spare_kept = record {
    numbers = map (spare_in stages.columns) stages.stages;
    count = length-map stages.stages (spare_in stages.columns) ∙ staged.count;
    each = λ slice in'.
        let within : slice < length stages.stages = let c = staged.count in omega (arith, in') in
        subst (HasSpareIn limits.columns history slice) (sym (get_or-map (spare_in stages.columns) stages.stages slice empty_stage 0 within ∙ ap (λ n. spare_in n (stage_of stages slice)) staged.columns_are))
        (spare_by slice in' (stage_of stages slice) (at_stage slice in'));
    adds_up = sym (sum-map (spare_in stages.columns) stages.stages);
  }

  module _ (tokens_are : AreTokens limits history tokens) (next : IsNextMark (length history) tokens stages.mark) where
    ready_by : (slice : ℕ) → slice < limits.slices → (s : Stage) → IsAtStage limits.columns history table slice s → HasReadyIn limits.columns history slice (ready_in limits.columns stages.mark s)
    ready_by slice in' (stage.InUse first over) at =
        inl (used_by_stage limits history table legal recorded slice in' (stage.InUse first over) at tt, sym (unclaimed_past slice first history at.claims limits.columns))
    ready_by slice in' (stage.Retired number) at =
        ⊎_elim
        (λ up. inr (inl (
          by_mark limits history table tokens stages legal recorded tokens_are staged slice (stage.Retired number) at up.1,
          ap (λ b. cond {A = ℕ} b limits.columns 0) up.0,
        )))
        (λ late. inr (inr (
          inl (after_mark limits history table tokens stages legal recorded tokens_are staged slice number next (retired_since limits.columns slice number history at) at.retired (let h = late.1 in omega arith)),
          ap (λ b. cond {A = ℕ} b limits.columns 0) late.0,
        )))
        (leb_tells number stages.mark)
    ready_by slice in' (stage.Clearing pass) at = inr (inr (inr (by_is_clearing pass slice history at), refl))

    pub ready_kept : HasReadyColumns limits history (ready_of stages)
    ready_kept = record {
      numbers = map (ready_in stages.columns stages.mark) stages.stages;
      count = length-map stages.stages (ready_in stages.columns stages.mark) ∙ staged.count;
      each = λ slice in'.
          let within : slice < length stages.stages = let c = staged.count in omega (arith, in') in
          subst (HasReadyIn limits.columns history slice)
          (sym (get_or-map (ready_in stages.columns stages.mark) stages.stages slice empty_stage 0 within ∙ ap (λ n. ready_in n stages.mark (stage_of stages slice)) staged.columns_are))
          (ready_by slice in' (stage_of stages slice) (at_stage slice in'));
      adds_up = sym (sum-map (ready_in stages.columns stages.mark) stages.stages);
    }

  -- ---- held columns

  -- a state that is claimed and not over is held
  held_state : (slice column : ℕ) (x : ColumnState) → IsInState history slice column x → is_claimed slice column history ≡ true → (IsOver x → ⊥) → IsHeld x
  held_state slice column Unclaimed is taken not_over = absurd (both_ways (is_claimed slice column history) is taken)
  held_state slice column (Pending pass) is taken not_over = tt
  held_state slice column Dropped is taken not_over = absurd (not_over tt)
  held_state slice column (Live d since) is taken not_over = tt
  held_state slice column (Deleted d since until) is taken not_over = absurd (not_over tt)

  held_not_over : (x : ColumnState) → IsHeld x → IsOver x → ⊥
  held_not_over Unclaimed held over = over
  held_not_over (Pending pass) held over = over
  held_not_over Dropped held over = held
  held_not_over (Live d since) held over = over
  held_not_over (Deleted d since until) held over = held

  not_false : (b : Bool) → not b ≡ true → b ≡ false
  not_false true is = cc
  not_false false is = refl

  -- in a filled slice those columns are held that aren't over
  pub holds_others : (slice : ℕ) → slice < limits.slices → is_clearing slice history ≡ false → IsFilled limits.columns slice history → HoldsColumns limits.columns history slice (limits.columns - count_by is_over (slots_of table slice))
  holds_others slice in' uncleared filled =
      let slots = slots_of table slice in
      let long : length slots ≡ limits.columns = length-slots_of table slice (let h = recorded.slices_are in omega arith) recorded.size ∙ recorded.columns_are in
      record {
        test = λ column. not (is_over (get_or slots column free_slot));
        tells = λ column below.
            let at' = in_table limits history table legal recorded slice column in' below in
            let at : IsColumn table slice column = record { slice_in_range = at'.slice_in_range; column_in_range = at'.column_in_range } in
            let is = recorded.each slice column at' uncleared in
            let same : is_over (slot_at table slice column) ≡ is_over (get_or slots column free_slot) = ap is_over (slot_at-slots_of table slice column at.column_in_range) in
            let x = state_of (slot_at table slice column) in (
              λ free. (
                x,
                is.state,
                held_state slice column x is.state (filled column below)
                    (λ over. both_ways (is_over (get_or slots column free_slot)) (not_false (is_over (get_or slots column free_slot)) free)
                    (sym same ∙ column_by_over (slot_at table slice column) is.fits over)),
              ),
              λ held.
                  let state = state_is limits history table legal recorded slice column held.0 in' below uncleared held.1 in
                  ap not (sym same ∙ not_over_by_state limits history table legal recorded slice column at uncleared held.0 state (held_not_over held.0 held.2)),
            );
        count =
            let both = over_and_others slots limits.columns (omega (arith, long)) in
            let all : count_by is_over (take limits.columns slots) ≡ count_by is_over slots = ap (count_by is_over) (take_all limits.columns slots (omega (arith, long))) in
            omega (arith, both, all);
      }

  -- of the first columns those that are held, those that are over and those that aren't claimed are all
  held_over_and_others : (slice : ℕ) → slice < limits.slices → is_clearing slice history ≡ false → (n : ℕ) → n ≤ limits.columns →
      count_by (λ c. is_claimed slice c history && not (is_over (get_or (slots_of table slice) c free_slot))) (range_with_len 0 n)
      + count_by is_over (take n (slots_of table slice)) + unclaimed_in n slice history ≡ n
  held_over_and_others slice in' uncleared zero within = omega arith
  held_over_and_others slice in' uncleared (suc n) within =
      let slots = slots_of table slice in
      let long : length slots ≡ limits.columns = length-slots_of table slice (let h = recorded.slices_are in omega arith) recorded.size ∙ recorded.columns_are in
      let before = held_over_and_others slice in' uncleared n (omega (arith, within)) in
      let held = counted_more (λ c. is_claimed slice c history && not (is_over (get_or slots c free_slot))) n in
      let others = counted_more (λ c. not (is_claimed slice c history)) n in
      let over : count_by is_over (take (suc n) slots) ≡ count_by is_over (take n slots) + cond (is_over (get_or slots n free_slot)) 1 0 =
      ap (λ k. count_by is_over (take k slots)) (sym (add-one n)) ∙ sum_by_more (λ x. cond (is_over x) 1 0) slots n free_slot (omega (arith, long, within)) in
      let one = one_of (is_claimed slice n history) (is_over (get_or slots n free_slot)) (unclaimed_not_over n (omega (arith, within))) in
      omega (arith, before, held, others, over, one) where
        one_of : (claims over : Bool) → (claims ≡ false → over ≡ false) → cond {A = ℕ} (claims && not over) 1 0 + cond {A = ℕ} over 1 0 + cond {A = ℕ} (not claims) 1 0 ≡ 1
        one_of true true none = refl
        one_of true false none = refl
        one_of false true none = let h = none refl in cc
        one_of false false none = refl

        unclaimed_not_over : (c : ℕ) → c < limits.columns → is_claimed slice c history ≡ false → is_over (get_or (slots_of table slice) c free_slot) ≡ false
        unclaimed_not_over c below is =
            let at' = in_table limits history table legal recorded slice c in' below in
            let at : IsColumn table slice c = record { slice_in_range = at'.slice_in_range; column_in_range = at'.column_in_range } in
            ap is_over (sym (slot_at-slots_of table slice c at.column_in_range))
            ∙ not_over_by_state limits history table legal recorded slice c at uncleared Unclaimed (state_is limits history table legal recorded slice c Unclaimed in' below uncleared is) (λ over. over)

  -- a column that is held is claimed
  held_is_claimed : (slice column : ℕ) (x : ColumnState) → IsInState history slice column x → IsHeld x → is_claimed slice column history ≡ true
  held_is_claimed slice column x is held =
      true_from_ne_false (is_claimed slice column history) (λ unclaimed. subst IsHeld (one_state limits history slice column x Unclaimed legal is unclaimed) held)

  -- in a slice in use those columns are held that are claimed and not over
  holds_claimed : (slice first over : ℕ) → slice < limits.slices → IsUsedSlice limits.columns history table slice first over → HoldsColumns limits.columns history slice (first - over)
  holds_claimed slice first over in' used =
      let slots = slots_of table slice in
      let uncleared = used.not_clearing in
      let long : length slots ≡ limits.columns = length-slots_of table slice (let h = recorded.slices_are in omega arith) recorded.size ∙ recorded.columns_are in
      record {
        test = λ column. is_claimed slice column history && not (is_over (get_or slots column free_slot));
        tells = λ column below.
            let at' = in_table limits history table legal recorded slice column in' below in
            let at : IsColumn table slice column = record { slice_in_range = at'.slice_in_range; column_in_range = at'.column_in_range } in
            let is = recorded.each slice column at' uncleared in
            let same : is_over (slot_at table slice column) ≡ is_over (get_or slots column free_slot) = ap is_over (slot_at-slots_of table slice column at.column_in_range) in
            let x = state_of (slot_at table slice column) in (
              λ free.
                  let two = both_true (is_claimed slice column history) (not (is_over (get_or slots column free_slot))) free in (
                    x,
                    is.state,
                    held_state slice column x is.state two.0
                        (λ over'. both_ways (is_over (get_or slots column free_slot)) (not_false (is_over (get_or slots column free_slot)) two.1)
                        (sym same ∙ column_by_over (slot_at table slice column) is.fits over')),
                  ),
              λ held.
                  let state = state_is limits history table legal recorded slice column held.0 in' below uncleared held.1 in
                  true_both (is_claimed slice column history) (not (is_over (get_or slots column free_slot)))
                  (held_is_claimed slice column held.0 held.1 held.2)
                  (ap not (sym same ∙ not_over_by_state limits history table legal recorded slice column at uncleared held.0 state (held_not_over held.0 held.2))),
            );
        count =
            let all = held_over_and_others slice in' uncleared limits.columns (omega arith) in
            let past = unclaimed_past slice first history used.claims limits.columns in
            let whole : count_by is_over (take limits.columns slots) ≡ count_by is_over slots = ap (count_by is_over) (take_all limits.columns slots (omega (arith, long))) in
            let within = used.within in
            let counts = used.count in
            omega (arith, all, past, whole, within, counts);
      } where
        both_true : (a b : Bool) → a && b ≡ true → (a ≡ true) × (b ≡ true)
        both_true true true is = (refl, refl)
        both_true true false is = cc
        both_true false b is = cc

        true_both : (a b : Bool) → a ≡ true → b ≡ true → a && b ≡ true
        true_both true true one two = refl
        true_both true false one two = cc
        true_both false b one two = cc

  -- none is held where none can be
  none_held_in : (slice : ℕ) → ((column : ℕ) → column < limits.columns → (x : ColumnState) → IsInState history slice column x → IsHeld x → ⊥) → HoldsColumns limits.columns history slice 0
  none_held_in slice none = record {
    test = λ column. false;
    tells = λ column below. (λ no. absurd (both_ways false refl no), λ held. absurd (none column below held.0 held.1 held.2));
    count = sym (none_counted (λ column. false) limits.columns (λ k below. refl));
  }

  -- so many columns of a slice are held, as its stage tells; and of no slice none is
  pub held_kept : (slice : ℕ) → HoldsColumns limits.columns history slice (held_in (stage_of stages slice))
  held_kept slice = ⊎_elim
      (λ (in' : slice < limits.slices). by_stage in' (stage_of stages slice) (at_stage slice in'))
      (λ (out : limits.slices ≤ slice).
      let past : stage_of stages slice ≡ empty_stage = get_or_past stages.stages slice empty_stage (let c = staged.count in omega (arith, c, out)) in
      subst (λ (s : Stage). HoldsColumns limits.columns history slice (held_in s)) (sym past)
      (none_held_in slice (λ column below x is held. let one = claimed_in_range limits history slice column legal (held_is_claimed slice column x is held) in let low = one.0 in omega (arith, low, out))))
      (cases_lt slice limits.slices) where
        by_over : AllOver limits.columns slice history → HoldsColumns limits.columns history slice 0
        by_over over = none_held_in slice (λ column below x is held.
            let was = over column below in
            held_not_over x held (subst IsOver (one_state limits history slice column was.0 x legal was.1 is) was.2))

        by_stage : slice < limits.slices → (s : Stage) → IsAtStage limits.columns history table slice s → HoldsColumns limits.columns history slice (held_in s)
        by_stage in' (stage.InUse first over) at = holds_claimed slice first over in' at
        by_stage in' (stage.Retired number) at = by_over (retired_since limits.columns slice number history at).over
        by_stage in' (stage.Clearing pass) at = by_over (λ column below.
            let state = some_state limits history slice column legal in
            (state.0, state.1, clearing_is_over limits history slice column state.0 legal (by_is_clearing pass slice history at) below state.1))

  -- ---- slices of which some columns are held, and not all

  pub partly_held : (slice first over : ℕ) → slice < limits.slices → stage_of stages slice ≡ stage.InUse first over → first ≡ limits.columns → 0 < over →
      IsPartlyHeld limits.columns history slice (limits.columns - over)
  partly_held slice first over in' is all some =
      let used : IsUsedSlice limits.columns history table slice first over = subst (IsAtStage limits.columns history table slice) is (at_stage slice in') in
      let filled = filled_by limits.columns slice first history used.claims (omega (arith, all)) in
      let left = used.some_left in
      record {
        filled = filled;
        holds = subst (λ n. HoldsColumns limits.columns history slice (limits.columns - n)) (sym used.count) (holds_others slice in' used.not_clearing filled);
        some = omega (arith, left);
        fewer = omega (arith, left, some);
      }

  -- all columns of a slice that is retired or being cleared are over
  pub all_over_by : (slice : ℕ) → slice < limits.slices → (s : Stage) → IsAtStage limits.columns history table slice s → (IsUsed s → ⊥) → AllOver limits.columns slice history
  all_over_by slice in' (stage.InUse first over) at unused = absurd (unused tt)
  all_over_by slice in' (stage.Retired number) at unused = (retired_since limits.columns slice number history at).over
  all_over_by slice in' (stage.Clearing pass) at unused = λ column below.
      let state = some_state limits history slice column legal in
      (state.0, state.1, clearing_is_over limits history slice column state.0 legal (by_is_clearing pass slice history at) below state.1)

  pub not_partly : (slice held : ℕ) → slice < limits.slices → IsPartlyHeld limits.columns history slice held →
      (first : ℕ) × (over : ℕ) × (stage_of stages slice ≡ stage.InUse first over) × (first ≡ limits.columns) × (0 < over) × (held ≡ limits.columns - over)
  not_partly slice held in' partly = by_stage (stage_of stages slice) refl (at_stage slice in') where
    one : is_clearing slice history ≡ false → held ≡ limits.columns - count_by is_over (slots_of table slice)
    one uncleared =
        one_held_count limits.columns history slice held (limits.columns - count_by is_over (slots_of table slice)) partly.holds (holds_others slice in' uncleared partly.filled)

    none_held : AllOver limits.columns slice history → (column : ℕ) → column < limits.columns → partly.holds.test column ≡ false
    none_held over column below =
        false_from_ne_true (partly.holds.test column)
        (λ held_there.
        let state = (partly.holds.tells column below).0 held_there in
        let was = over column below in
        held_not_over state.0 state.2 (subst IsOver (one_state limits history slice column was.0 state.0 legal was.1 state.1) was.2))

    by_over : AllOver limits.columns slice history → ⊥
    by_over over =
        let none = none_counted partly.holds.test limits.columns (none_held over) in
        let count = partly.holds.count in
        let some = partly.some in
        omega (arith, none, count, some)

    by_stage : (s : Stage) → stage_of stages slice ≡ s → IsAtStage limits.columns history table slice s →
        (first : ℕ) × (over : ℕ) × (stage_of stages slice ≡ stage.InUse first over) × (first ≡ limits.columns) × (0 < over) × (held ≡ limits.columns - over)
    by_stage (stage.InUse first over) is at =
        let within = at.within in
        let counted = at.count in
        let fewer = partly.fewer in
        let one = one at.not_clearing in (
          first,
          over,
          is,
          ⊎_elim
              (λ (left : first < limits.columns). absurd (none_left limits.columns slice first history partly.filled (unclaimed_next limits.columns slice first history at.claims left)))
              (λ (full : limits.columns ≤ first). omega (arith, full, within)) (cases_lt first limits.columns),
          omega (arith, counted, fewer, one),
          omega (arith, counted, one),
        )
    by_stage (stage.Retired number) is at = absurd (by_over (all_over_by slice in' (stage.Retired number) at (λ used. used)))
    by_stage (stage.Clearing pass) is at = absurd (by_over (all_over_by slice in' (stage.Clearing pass) at (λ used. used)))

-- ---- the source

-- documents may be moved out of a slice that is partly held and has a live column, and out of no other
pub can_be_emptied : (limits : Limits) (history : List Event) (slice held : ℕ) → IsPartlyHeld limits.columns history slice held → HasLive limits.columns history slice → CanBeEmptied limits.columns history slice held
can_be_emptied limits history slice held partly live = record { filled = partly.filled; live = live; holds = partly.holds; fewer = partly.fewer }

pub partly_by : (limits : Limits) (history : List Event) (slice held : ℕ) → CanBeEmptied limits.columns history slice held → IsPartlyHeld limits.columns history slice held
partly_by limits history slice held can = record { filled = can.filled; holds = can.holds; some = emptied_holds limits.columns history slice held can; fewer = can.fewer }

abbrev pub IsSourceBelow : Limits → List Event → ℕ → Option (ℕ × ℕ) → Type 0
IsSourceBelow limits history n None = (slice held : ℕ) → slice < n → CanBeEmptied limits.columns history slice held → ⊥
IsSourceBelow limits history n (Some source) = IsSource (record limits { slices = n }) history source.0 source.1

-- the next slice is no better
pub source_still : (limits : Limits) (history : List Event) (n : ℕ) (source : Option (ℕ × ℕ)) → IsSourceBelow limits history n source →
    ((held : ℕ) → CanBeEmptied limits.columns history n held → is_fewer held source ≡ false) → IsSourceBelow limits history (n + 1) source
source_still limits history n None below no_better = λ slice held in' can.
    ⊎_elim (λ (earlier : slice < n). below slice held earlier can)
    (λ (last : n ≤ slice). let is : slice ≡ n = omega arith in false≢true (sym (no_better held (subst (λ k. CanBeEmptied limits.columns history k held) is can))))
    (cases_lt slice n)
source_still limits history n (Some source) below no_better = record {
  in_range = let h = below.in_range in omega arith;
  can = below.can;
  fewest = λ other number in' can.
      ⊎_elim (λ (earlier : other < n). below.fewest other number earlier can)
      (λ (last : n ≤ other).
      let is : other ≡ n = omega arith in
      ltb-false number source.1 (no_better number (subst (λ k. CanBeEmptied limits.columns history k number) is can)))
      (cases_lt other n);
  lowest = below.lowest;
}

-- it is better
pub source_next : (limits : Limits) (history : List Event) (n held : ℕ) (source : Option (ℕ × ℕ)) → IsSourceBelow limits history n source → CanBeEmptied limits.columns history n held →
    is_fewer held source ≡ true → IsSourceBelow limits history (n + 1) (Some (n, held))
source_next limits history n held None below can fewer = record {
  in_range = omega arith;
  can = can;
  fewest = λ other number in' also.
      ⊎_elim (λ (earlier : other < n). absurd (below other number earlier also))
      (λ (last : n ≤ other). let is : other ≡ n = omega arith in omega (arith, one_held_count limits.columns history n held number can.holds (subst (λ k. HoldsColumns limits.columns history k number) is also.holds)))
      (cases_lt other n);
  lowest = λ lower number less also. absurd (below lower number less also);
}
source_next limits history n held (Some source) below can fewer =
    let less = ltb-true held source.1 fewer in record {
      in_range = omega arith;
      can = can;
      fewest = λ other number in' also.
          ⊎_elim (λ (earlier : other < n). let most = below.fewest other number earlier also in omega (arith, less, most))
          (λ (last : n ≤ other). let is : other ≡ n = omega arith in omega (arith, one_held_count limits.columns history n held number can.holds (subst (λ k. HoldsColumns limits.columns history k number) is also.holds)))
          (cases_lt other n);
      lowest = λ lower number earlier also. let most = below.fewest lower number earlier also in omega (arith, less, most);
    }

-- of all slices
pub source_of_all : (limits : Limits) (history : List Event) (n : ℕ) (source : Option (ℕ × ℕ)) → n ≡ limits.slices → IsSourceBelow limits history n source →
    MatchOption source ((slice held : ℕ) → IsSource limits history slice held → ⊥) (λ (of : ℕ × ℕ). IsSource limits history of.0 of.1)
source_of_all limits history n None all below = λ slice held is. let within = is.in_range in below slice held (omega (arith, all, within)) is.can
source_of_all limits history n (Some source) all below = record {
  in_range = let h = below.in_range in omega (arith, all, h);
  can = below.can;
  fewest = λ other number within. below.fewest other number (omega (arith, all, within));
  lowest = below.lowest;
}
