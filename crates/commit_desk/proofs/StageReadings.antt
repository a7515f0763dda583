-- What the stages of the slices tell of the history.
use Rattle.std.proofs.Common.{◌≡◌, ◌⊎◌, ⊎_elim, inl, inr, ℕ, ◌+◌, ◌<◌, ◌≤◌, true, false, List, ◌∷◌, length, count_by, Some, refl, sym, ap, ◌∙◌, subst, arith, All}
use Rattle.std.proofs.lemmas.Bool.{both_ways, cases_lt, false_from_ne_true}
use Rattle.std.proofs.lemmas.List.{length-append}
use Rattle.std.proofs.lemmas.List.Elements.{All-from_get_or, All-get_or}
use Rattle.std.proofs.lemmas.List.FromFn.{length-range_with_len}
use Rattle.document_store.proofs.CountLemmas.{all_pass-from_count}
use Rattle.document_store.proofs.SlotLemmas.{length-slots_of, slot_at-slots_of}
use Rattle.document_store.specs.Documents.{Parts}
use Rattle.document_store.specs.Slots.{IsColumn, Table, free_slot, slot_at, slots_of, is_over}
use Rattle.document_store.specs.declared.slots.Slot.{Slot}
use Rattle.funnel_model.specs.declared.event.Event.{Event}
use Rattle.funnel_model.specs.declared.event.Event.TheVariants as event
use Rattle.funnel_model.specs.History.{last_by}
use Rattle.funnel_model.specs.Legal.{HasRoom, IsFull, IsIdle, IsLegal, Limits, MayTake, NoneCanClear}
use Rattle.funnel_model.specs.Slices.{AllOver, ColumnState, HasUnclaimed, IsFilled, IsInState, IsInUse, IsOver, IsRetired, IsRetiredAt, Pending, claimed, is_claimed, is_clearing, is_clearing_by}
use Rattle.funnel_model.specs.Tokens.{IsGuarded}
use Rattle.funnel_model.proofs.Blocks.{by_is_clearing}
use Rattle.funnel_model.proofs.ClaimLemmas.{filled_by, unclaimed_next}
use Rattle.funnel_model.proofs.Clears.{pending_in_range, pending_not_clearing, pending_not_retired}
use Rattle.funnel_model.proofs.Columns.{last_is_pending, not_retired_by}
use Rattle.funnel_model.proofs.Retirement.{retires_once}
use Rattle.slice_stages.specs.Stages.{HasLeft, HoldsOfNone, IsLowest, IsUsed, RetiredBefore, StageTable, empty_stage, stage_of}
use Rattle.slice_stages.specs.declared.stage.Stage.{Stage}
use Rattle.slice_stages.specs.declared.stage.Stage.TheVariants as stage
use Rattle.commit_desk.specs.Kept.{IsAtStage, IsRetiredSlice, IsUsedSlice}
use Rattle.commit_desk.specs.Records.{AreRecorded, IsLiveIn, state_of}
use Rattle.commit_desk.proofs.RecordFacts.{live_is_open}
use Rattle.commit_desk.proofs.Slots.{over_by_column, state-live}
use Rattle.commit_desk.proofs.StageFacts.{in_table, retired_since, used_by_stage, used_stage}

-- each slice is as far as it is kept to be
abbrev pub AreAtStages : Limits → List Event → Table → StageTable → Type 0
AreAtStages limits history table stages = (slice : ℕ) → slice < limits.slices → IsAtStage limits.columns history table slice (stage_of stages slice)

-- a slice in use, by its stage
used_is : (s : Stage) → IsUsed s → (first : ℕ) × (over : ℕ) × (s ≡ stage.InUse first over)
used_is (stage.InUse first over) used = (first, over, refl)
used_is (stage.Retired number) used = absurd used
used_is (stage.Clearing pass) used = absurd used

-- a slice with a column left, by its stage
left_is : (columns : ℕ) (s : Stage) → HasLeft columns s → (first : ℕ) × (over : ℕ) × (s ≡ stage.InUse first over) × (first < columns)
left_is columns (stage.InUse first over) left = (first, over, refl, left)
left_is columns (stage.Retired number) left = absurd left
left_is columns (stage.Clearing pass) left = absurd left

-- a slice that retired at an event didn't retire after the history
retired_by_now : (columns slice number : ℕ) (history : List Event) → IsRetiredAt columns slice history number → number < length history + 1
retired_by_now columns slice number history at =
    let count = at.count in omega (arith, ap length at.whole, length-append at.earlier (at.event ∷ at.later))

-- so many columns of a slice in use are claimed
pub claimed_count : (columns : ℕ) (history : List Event) (table : Table) (slice first over : ℕ) → IsUsedSlice columns history table slice first over → length (claimed slice history) ≡ first
claimed_count columns history table slice first over is = ap length is.claims ∙ length-range_with_len 0 first

-- a slice whose columns are all claimed has none unclaimed
pub none_left : (columns slice first : ℕ) (history : List Event) → IsFilled columns slice history → HasUnclaimed columns slice history → ⊥
none_left columns slice first history filled unclaimed =
    both_ways (is_claimed slice unclaimed.0 history) unclaimed.2 (filled unclaimed.0 unclaimed.1)

module _ (limits : Limits) (history : List Event) (table : Table) (legal : IsLegal limits history) (recorded : AreRecorded limits history table) where
  -- so many columns of a slice are recorded as deleted or dropped as there are only where each is
  pub over_by_count : (slice : ℕ) → slice < limits.slices → is_clearing slice history ≡ false → count_by is_over (slots_of table slice) ≡ limits.columns → AllOver limits.columns slice history
  over_by_count slice in' uncleared all column below =
      let at = in_table limits history table legal recorded slice column in' below in
      let is = recorded.each slice column at uncleared in
      let slices_are = recorded.slices_are in
      let len = length-slots_of table slice (omega arith) recorded.size ∙ recorded.columns_are in
      let pass = all_pass-from_count is_over (slots_of table slice) (all ∙ sym len) in
      let here : is_over (slot_at table slice column) ≡ true =
      ap is_over (slot_at-slots_of table slice column at.column_in_range)
      ∙ All-get_or (λ (x : Slot). is_over x ≡ true) (slots_of table slice) column free_slot (omega arith) pass in
      (state_of (slot_at table slice column), is.state, over_by_column (slot_at table slice column) is.fits here)

  -- a column in a state that is not over isn't recorded as deleted or dropped
  pub not_over_by_state : (slice column : ℕ) → IsColumn table slice column → is_clearing slice history ≡ false → (x : ColumnState) → state_of (slot_at table slice column) ≡ x → (IsOver x → ⊥) →
      is_over (slot_at table slice column) ≡ false
  not_over_by_state slice column at uncleared x same not =
      let fits = (recorded.each slice column (record { slice_in_range = at.slice_in_range; column_in_range = at.column_in_range }) uncleared).fits in
      false_from_ne_true (is_over (slot_at table slice column)) (λ over. not (subst IsOver same (over_by_column (slot_at table slice column) fits over)))

  -- the slice of a pending column is in use
  pending_in_use : (pass slice column : ℕ) → IsInState history slice column (Pending pass) → IsInUse limits.columns slice history
  pending_in_use pass slice column pending = record {
    not_retired = pending_not_retired limits history slice column pass legal pending;
    not_clearing = pending_not_clearing limits history slice column pass legal pending;
  }

  -- and so is that of a live document
  pub live_in_use : (slice column : ℕ) (doc : Parts) → IsColumn table slice column → IsLiveIn (slot_at table slice column) doc → IsInUse limits.columns slice history
  live_in_use slice column doc at live =
      let columns_are = recorded.columns_are in
      let below : column < limits.columns = let h = at.column_in_range in omega arith in
      let x = state_of (slot_at table slice column) in
      let here : IsColumn table slice column = record { slice_in_range = at.slice_in_range; column_in_range = at.column_in_range } in
      let uncleared = live_is_open limits history table legal recorded slice column doc here live in
      let is : IsInState history slice column x = (recorded.each slice column here uncleared).state in
      let not_over : IsOver x → ⊥ = λ over. subst IsOver (state-live (slot_at table slice column) doc live) over in
      record {
        not_retired = not_retired_by limits history slice column x legal below is not_over;
        not_clearing = uncleared;
      }

  module _ (stages : StageTable) (each : AreAtStages limits history table stages) where
    -- a slice in use is at the stage InUse
    pub in_use_stage : (slice : ℕ) → slice < limits.slices → IsInUse limits.columns slice history → (first : ℕ) × (over : ℕ) × (stage_of stages slice ≡ stage.InUse first over)
    in_use_stage slice in' used = used_is (stage_of stages slice) (used_stage limits history table legal recorded slice (stage_of stages slice) (each slice in') used)

    -- what is kept of a slice at the stage InUse
    pub used_slice : (slice first over : ℕ) → slice < limits.slices → stage_of stages slice ≡ stage.InUse first over → IsUsedSlice limits.columns history table slice first over
    used_slice slice first over in' is = subst (IsAtStage limits.columns history table slice) is (each slice in')

    -- of one at the stage Retired
    pub retired_slice : (slice number : ℕ) → slice < limits.slices → stage_of stages slice ≡ stage.Retired number → IsRetiredSlice limits.columns history slice number
    retired_slice slice number in' is = subst (IsAtStage limits.columns history table slice) is (each slice in')

    -- and of one at the stage Clearing
    clearing_slice : (slice pass : ℕ) → slice < limits.slices → stage_of stages slice ≡ stage.Clearing pass → is_clearing_by pass slice history ≡ true
    clearing_slice slice pass in' is = subst (IsAtStage limits.columns history table slice) is (each slice in')

    -- a slice that a pass clears is at the stage Clearing
    pub clearing_stage : (slice pass : ℕ) → slice < limits.slices → is_clearing_by pass slice history ≡ true → (clearer : ℕ) × (stage_of stages slice ≡ stage.Clearing clearer)
    clearing_stage slice pass in' by = by_stage (stage_of stages slice) refl where
      clearing : is_clearing slice history ≡ true
      clearing = by_is_clearing pass slice history by

      by_stage : (s : Stage) → stage_of stages slice ≡ s → (clearer : ℕ) × (stage_of stages slice ≡ stage.Clearing clearer)
      by_stage (stage.InUse first over) is = absurd (both_ways (is_clearing slice history) (used_slice slice first over in' is).not_clearing clearing)
      by_stage (stage.Retired number) is = absurd (both_ways (is_clearing slice history) (retired_slice slice number in' is).not_clearing clearing)
      by_stage (stage.Clearing clearer) is = (clearer, is)

    -- a slice at the stage Retired is retired
    pub stage_is_retired : (slice number : ℕ) → slice < limits.slices → stage_of stages slice ≡ stage.Retired number → IsRetired limits.columns slice history
    stage_is_retired slice number in' is = retired_since limits.columns slice number history (retired_slice slice number in' is)

    -- since that event and no other
    pub retired_once : (slice number other : ℕ) → slice < limits.slices → stage_of stages slice ≡ stage.Retired number → IsRetiredAt limits.columns slice history other → other ≡ number
    retired_once slice number other in' is at = retires_once limits.columns slice other number history at (retired_slice slice number in' is).retired

    -- a slice at the stage InUse is in use
    pub stage_is_in_use : (slice first over : ℕ) → slice < limits.slices → stage_of stages slice ≡ stage.InUse first over → IsInUse limits.columns slice history
    stage_is_in_use slice first over in' is =
        used_by_stage limits history table legal recorded slice in' (stage_of stages slice) (each slice in') (subst IsUsed (sym is) tt)

    -- a slice that a document can be taken in has a column left
    pub room_has_left : (slice : ℕ) → slice < limits.slices → HasRoom limits.columns history slice → HasLeft limits.columns (stage_of stages slice)
    room_has_left slice in' room =
        let found = in_use_stage slice in' room.in_use in
        let first = found.0 in
        let is = used_slice slice first found.1 in' found.2 in
        subst (HasLeft limits.columns) (sym found.2)
        (⊎_elim (λ (below : first < limits.columns). below)
        (λ (full : limits.columns ≤ first). absurd (none_left limits.columns slice first history (filled_by limits.columns slice first history is.claims full) room.unclaimed))
        (cases_lt first limits.columns))

    -- and the other way round
    pub left_has_room : (slice : ℕ) → slice < limits.slices → HasLeft limits.columns (stage_of stages slice) → HasRoom limits.columns history slice
    left_has_room slice in' left =
        let found = left_is limits.columns (stage_of stages slice) left in
        let is = used_slice slice found.0 found.1 in' found.2 in
        record {
          in_use = stage_is_in_use slice found.0 found.1 in' found.2;
          unclaimed = unclaimed_next limits.columns slice found.0 history is.claims found.3;
        }

    -- the lowest slice with a column left is the one in which an idle pass may take
    pub may_take : length stages.stages ≡ limits.slices → (pass slice : ℕ) → IsIdle pass history → IsLowest (HasLeft limits.columns) stages slice →
        MayTake limits history pass slice (length (claimed slice history))
    may_take size pass slice idle is =
        let in' : slice < limits.slices = let h = is.in_range in omega arith in record {
          idle = idle;
          in_range = in';
          room = left_has_room slice in' is.is;
          lowest = λ lower less room. is.lowest lower less (room_has_left lower (omega arith) room);
          next = refl;
        }

    -- where no slice has a column left no document can be taken
    pub none_has_room : length stages.stages ≡ limits.slices → HoldsOfNone (HasLeft limits.columns) stages → (slice : ℕ) → slice < limits.slices →
        HasRoom limits.columns history slice → ⊥
    none_has_room size none slice in' room = none slice (omega arith) (room_has_left slice in' room)

    -- a slice in use of which no column is left is filled and not retired
    filled_slice : (slice first over : ℕ) → slice < limits.slices → stage_of stages slice ≡ stage.InUse first over → limits.columns ≤ first →
        IsFilled limits.columns slice history × (IsRetired limits.columns slice history → ⊥)
    filled_slice slice first over in' is full = (
      filled_by limits.columns slice first history (used_slice slice first over in' is).claims full,
      (stage_is_in_use slice first over in' is).not_retired,
    )

    -- where no slice has a column left and none can be cleared the engine is full
    pub full_by : length stages.stages ≡ limits.slices → HoldsOfNone (HasLeft limits.columns) stages → NoneCanClear limits history → IsFull limits history
    full_by size none guarded slice in' = by_stage (stage_of stages slice) refl where
      by_stage : (s : Stage) → stage_of stages slice ≡ s →
          (IsFilled limits.columns slice history × (IsRetired limits.columns slice history → ⊥))
          ⊎ (IsRetired limits.columns slice history × IsGuarded limits.columns history slice) ⊎ (is_clearing slice history ≡ true)
      by_stage (stage.InUse first over) is =
          inl (filled_slice slice first over in' is
          (⊎_elim (λ (below : first < limits.columns). absurd (none slice (omega arith) (subst (HasLeft limits.columns) (sym is) below)))
          (λ (full : limits.columns ≤ first). full) (cases_lt first limits.columns)))
      by_stage (stage.Retired number) is = let retired = stage_is_retired slice number in' is in inr (inl (retired, guarded slice in' retired))
      by_stage (stage.Clearing pass) is = inr (inr (by_is_clearing pass slice history (clearing_slice slice pass in' is)))

    -- each slice that is retired retired before the next event
    pub retired_before : length stages.stages ≡ limits.slices → All (RetiredBefore (length history + 1)) stages.stages
    retired_before size =
        All-from_get_or (RetiredBefore (length history + 1)) stages.stages empty_stage (λ slice within. by_stage slice (omega arith) (stage_of stages slice) refl) where
          by_stage : (slice : ℕ) → slice < limits.slices → (s : Stage) → stage_of stages slice ≡ s → RetiredBefore (length history + 1) (stage_of stages slice)
          by_stage slice in' (stage.InUse first over) is = subst (RetiredBefore (length history + 1)) (sym is) tt
          by_stage slice in' (stage.Retired number) is =
              subst (RetiredBefore (length history + 1)) (sym is) (retired_by_now limits.columns slice number history (retired_slice slice number in' is).retired)
          by_stage slice in' (stage.Clearing pass) is = subst (RetiredBefore (length history + 1)) (sym is) tt

-- the pass's last event is its take of a column of a slice in use
pub taken_in_use : (limits : Limits) (history : List Event) (table : Table) (pass slice column : ℕ) → IsLegal limits history → AreRecorded limits history table →
    last_by pass history ≡ Some (event.Take pass slice column) → (slice < limits.slices) × (column < limits.columns) × IsInUse limits.columns slice history
taken_in_use limits history table pass slice column legal recorded last =
    let pending = last_is_pending limits history slice column pass legal last in
    let in' = pending_in_range limits history slice column pass legal pending in
    (in'.0, in'.1, pending_in_use limits history table legal recorded pass slice column pending)
