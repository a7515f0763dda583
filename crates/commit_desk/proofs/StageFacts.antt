-- How far a slice is by the history, told from what is kept of it.
use Rattle.std.proofs.Common.{◌≡◌, ◌↔◌, ℕ, ◌<◌, true, List, [], ◌∷◌, ◌++◌, false, length, count_by, refl, sym, ap, ◌∙◌, subst, arith, append_assoc, Option, Contains}
use Rattle.std.specs.List.{list_any}
use Rattle.std.proofs.lemmas.Bool.{both_ways, or_parts}
use Rattle.std.proofs.lemmas.List.Elements.{All-from_get_or}
use Rattle.document_store.proofs.CountLemmas.{count_by-all}
use Rattle.document_store.proofs.SlotLemmas.{length-slots_of, slot_at-slots_of}
use Rattle.document_store.specs.Slots.{IsColumn, Table, free_slot, slot_at, slots_of, is_over}
use Rattle.document_store.specs.declared.slots.Slot.{Slot}
use Rattle.funnel_model.specs.declared.event.Event.{Event}
use Rattle.funnel_model.specs.Events.{opens}
use Rattle.funnel_model.specs.Legal.{Limits, IsLegal}
use Rattle.funnel_model.specs.Slices.{ColumnState, AllOver, IsInState, IsInUse, IsOver, IsRetired, IsRetiredAt, is_clearing}
use Rattle.funnel_model.proofs.Blocks.{by_is_clearing}
use Rattle.funnel_model.proofs.Columns.{one_state}
use Rattle.funnel_model.proofs.Retirement.{all_over-append}
use Rattle.slice_stages.specs.Stages.{IsUsed, StageTable, stage_of}
use Rattle.slice_stages.specs.declared.stage.Stage.{Stage}
use Rattle.slice_stages.specs.declared.stage.Stage.TheVariants as stage
use Rattle.commit_desk.specs.Kept.{AreStages, IsAtStage, IsRetiredSlice}
use Rattle.commit_desk.specs.Records.{AreRecorded, state_of}
use Rattle.commit_desk.proofs.Slots.{column_by_over}

-- a slice that retired at some event is retired while it isn't being cleared
pub retired_since : (columns slice number : ℕ) (history : List Event) → IsRetiredSlice columns history slice number → IsRetired columns slice history
retired_since columns slice number history is =
    let at = is.retired in record {
      over = subst (AllOver columns slice) (sym (at.whole ∙ sym (append_assoc at.earlier (at.event ∷ []) at.later)))
          (all_over-append columns slice (at.earlier ++ at.event ∷ []) at.later
          (or_parts (opens slice at.event) (list_any (opens slice) at.later) at.stays).1 at.over);
      not_clearing = is.not_clearing;
    }

module _ (limits : Limits) (history : List Event) (table : Table) (legal : IsLegal limits history) (recorded : AreRecorded limits history table) where
  -- a column of a slice is one of the table
  pub in_table : (slice column : ℕ) → slice < limits.slices → column < limits.columns → IsColumn table slice column
  in_table slice column in' below = record { slice_in_range = let h = recorded.slices_are in omega arith; column_in_range = let h = recorded.columns_are in omega arith }

  -- it is recorded with its state, unless its slice is being cleared
  pub state_is : (slice column : ℕ) (x : ColumnState) → slice < limits.slices → column < limits.columns → is_clearing slice history ≡ false → IsInState history slice column x →
      state_of (slot_at table slice column) ≡ x
  state_is slice column x in' below uncleared holds =
      one_state limits history slice column (state_of (slot_at table slice column)) x legal (recorded.each slice column (in_table slice column in' below) uncleared).state holds

  -- where all columns of a slice are deleted or dropped, so many are recorded as that
  pub count_by_over : (slice : ℕ) → slice < limits.slices → is_clearing slice history ≡ false → AllOver limits.columns slice history → count_by is_over (slots_of table slice) ≡ limits.columns
  count_by_over slice in' uncleared over =
      let slices_are = recorded.slices_are in
      let len = length-slots_of table slice (omega arith) recorded.size ∙ recorded.columns_are in
      count_by-all is_over (slots_of table slice)
      (All-from_get_or (λ (x : Slot). is_over x ≡ true) (slots_of table slice) free_slot
      (λ column within.
      let below : column < limits.columns = omega arith in
      let at = in_table slice column in' below in
      let state = over column below in
      let same = state_is slice column state.0 in' below uncleared state.1 in
      ap is_over (sym (slot_at-slots_of table slice column at.column_in_range))
      ∙ column_by_over (slot_at table slice column) (recorded.each slice column at uncleared).fits (subst IsOver (sym same) state.2)))
      ∙ len

  -- a slice that is retired is kept as such, with the event at which it retired
  pub retired_stage : (slice : ℕ) → slice < limits.slices → (s : Stage) → IsAtStage limits.columns history table slice s → IsRetired limits.columns slice history →
      (number : ℕ) × (s ≡ stage.Retired number) × IsRetiredAt limits.columns slice history number
  retired_stage slice in' (stage.InUse first over) at retired =
      let all = count_by_over slice in' at.not_clearing retired.over in
      let count = at.count in
      let left = at.some_left in
      absurd (omega arith)
  retired_stage slice in' (stage.Retired number) at retired = (number, refl, at.retired)
  retired_stage slice in' (stage.Clearing pass) by retired =
      absurd (both_ways (is_clearing slice history) retired.not_clearing (by_is_clearing pass slice history by))

  -- a slice in use is kept as such
  pub used_stage : (slice : ℕ) → (s : Stage) → IsAtStage limits.columns history table slice s → IsInUse limits.columns slice history → IsUsed s
  used_stage slice (stage.InUse first over) at used = tt
  used_stage slice (stage.Retired number) at used = absurd (used.not_retired (retired_since limits.columns slice number history at))
  used_stage slice (stage.Clearing pass) by used = absurd (both_ways (is_clearing slice history) used.not_clearing (by_is_clearing pass slice history by))

  -- and one that is kept so is in use
  pub used_by_stage : (slice : ℕ) → slice < limits.slices → (s : Stage) → IsAtStage limits.columns history table slice s → IsUsed s → IsInUse limits.columns slice history
  used_by_stage slice in' (stage.InUse first over) at used = record {
    not_retired = λ retired.
        let all = count_by_over slice in' at.not_clearing retired.over in
        let count = at.count in
        let left = at.some_left in
        absurd (omega arith);
    not_clearing = at.not_clearing;
  }
  used_by_stage slice in' (stage.Retired number) at used = absurd used
  used_by_stage slice in' (stage.Clearing pass) at used = absurd used

-- the slices that are kept as in use are those in use
pub used_slices : (limits : Limits) (history : List Event) (table : Table) (tokens : List (Option ℕ)) (stages : StageTable) (held : List ℕ) → IsLegal limits history →
    AreRecorded limits history table → AreStages limits history table tokens stages →
    ((slice : ℕ) → Contains held slice ↔ ((slice < length stages.stages) × IsUsed (stage_of stages slice))) →
    (slice : ℕ) → Contains held slice ↔ ((slice < limits.slices) × IsInUse limits.columns slice history)
used_slices limits history table tokens stages held legal recorded staged kept slice = (
  λ has.
      let h = (kept slice).0 has in
      let in' : slice < limits.slices = let c = staged.count in omega (arith, h.0) in
      (in', used_by_stage limits history table legal recorded slice in' (stage_of stages slice) (staged.each slice in') h.1),
  λ used. (kept slice).1 (
    let c = staged.count in omega (arith, used.0),
    used_stage limits history table legal recorded slice (stage_of stages slice) (staged.each slice used.0) used.1,
  ),
)
