-- How far slices are after each kind of event.
use Rattle.std.proofs.Common.{◌≡◌, ◌≢◌, ⊎_elim, ℕ, ◌+◌, ◌<◌, Bool, true, false, ◌&&◌, cond, List, [], ◌∷◌, ◌++◌, length, count_by, Some, None, refl, sym, ap, ◌∙◌, subst, arith}
use Rattle.std.proofs.lemmas.Bool.{and_from, cases_eq, cond_both, eq-eqb, eqb-false, eqb-true, ne_eqb, or_from, or_left, or_right}
use Rattle.std.proofs.lemmas.List.{get_or-set_other, get_or-set_same}
use Rattle.std.specs.List.{range_with_len}
use Rattle.std.specs.Prelude.{◌==◌}
use Rattle.document_store.specs.Documents.{Parts}
use Rattle.document_store.specs.Slots.{IsColumn, Table, slot_at, slots_of, with_slice, with_slot, without_slice, is_over}
use Rattle.document_store.specs.declared.slots.Slot.{Slot}
use Rattle.funnel_model.specs.declared.bit_list.Bit.{Bit}
use Rattle.funnel_model.specs.declared.event.Event.{Event}
use Rattle.funnel_model.specs.declared.event.Event.TheVariants as event
use Rattle.funnel_model.specs.Events.{clears, column_taken_in, opens, pass_of}
use Rattle.funnel_model.specs.History.{last_by}
use Rattle.funnel_model.specs.Legal.{IsAllowed, IsLegal, Limits}
use Rattle.funnel_model.specs.Slices.{Pending, Unclaimed, is_clearing, is_clearing_by}
use Rattle.funnel_model.proofs.ClaimLemmas.{range_with_len-push}
use Rattle.funnel_model.proofs.Claims.{claimed-opened, claimed-take, take_follows, take_is_unclaimed, take_within}
use Rattle.funnel_model.proofs.Columns.{last_is_pending}
use Rattle.funnel_model.proofs.Clears.{pending_in_range, pending_not_clearing}
use Rattle.funnel_model.proofs.Histories.{legal-push}
use Rattle.funnel_model.proofs.LastEvents.{last_is_clearing, not_clearing_opened}
use Rattle.funnel_model.proofs.NextEvents.{clears_in_range}
use Rattle.funnel_model.proofs.Retirement.{retired_at-push}
use Rattle.funnel_model.proofs.Spans.{claimed-other, in_span-push}
use Rattle.slice_stages.specs.Stages.{StageTable, after_end, empty_stage, stage_of, with_stage}
use Rattle.slice_stages.specs.declared.stage.Stage.{Stage}
use Rattle.slice_stages.specs.declared.stage.Stage.TheVariants as stage
use Rattle.commit_desk.specs.Kept.{IsAtStage, IsUsedSlice}
use Rattle.commit_desk.specs.Records.{AreRecorded, IsLiveIn}
use Rattle.commit_desk.proofs.Slots.{count-with_slot, live_not_over, none_over, slots_of-other, slots_of-without_other}
use Rattle.commit_desk.proofs.StageFacts.{count_by_over, in_table, state_is}
use Rattle.commit_desk.proofs.StageReadings.{AreAtStages, not_over_by_state, over_by_count, used_slice}

-- so many columns of the slice are recorded as deleted or dropped
abbrev pub count_over : Table → ℕ → ℕ
count_over table slice = count_by is_over (slots_of table slice)

-- the event doesn't concern how far the slice is: it claims no column of it, doesn't begin to clear it and doesn't open it
pub record LeavesSlice (slice : ℕ) (e : Event) : Type 0 where
  pub takes : column_taken_in slice e ≡ None
  pub clears : clears slice e ≡ false
  pub opens : opens slice e ≡ false

-- an event that opens nothing and clears another slice leaves a slice that isn't being cleared so
not_clearing-left : (slice : ℕ) (history : List Event) (e : Event) → opens slice e ≡ false → clears slice e ≡ false → is_clearing slice history ≡ false →
    is_clearing slice (history ++ e ∷ []) ≡ false
not_clearing-left slice history e opened cleared not_clearing =
    in_span-push (clears slice) slice history e opened ∙ or_from (is_clearing slice history) (clears slice e) not_clearing cleared

-- a slice stays as far as it is with an event that doesn't concern that, where as many of its columns stay recorded as deleted or dropped
pub stage-left : (columns slice : ℕ) (history : List Event) (e : Event) (table next : Table) (s : Stage) → LeavesSlice slice e → count_over next slice ≡ count_over table slice →
    IsAtStage columns history table slice s → IsAtStage columns (history ++ e ∷ []) next slice s
stage-left columns slice history e table next (stage.InUse first over) leaves same at = record {
  not_clearing = not_clearing-left slice history e leaves.opens leaves.clears at.not_clearing;
  claims = claimed-other slice history e leaves.opens leaves.takes ∙ at.claims;
  within = at.within;
  count = at.count ∙ sym same;
  some_left = at.some_left;
}
stage-left columns slice history e table next (stage.Retired number) leaves same at = record {
  not_clearing = not_clearing-left slice history e leaves.opens leaves.clears at.not_clearing;
  retired = retired_at-push columns slice number history e at.retired leaves.opens;
}
stage-left columns slice history e table next (stage.Clearing pass) leaves same by =
    in_span-push (λ x. pass_of x == pass && clears slice x) slice history e leaves.opens
    ∙ or_left (is_clearing_by pass slice history) (pass_of e == pass && clears slice e) by

-- one slice is at another stage, and the others at the same
pub stages-one : (limits : Limits) (history : List Event) (table : Table) (stages : StageTable) (s : ℕ) (next : Stage) → length stages.stages ≡ limits.slices → s < limits.slices →
    IsAtStage limits.columns history table s next → ((slice : ℕ) → slice < limits.slices → slice ≢ s → IsAtStage limits.columns history table slice (stage_of stages slice)) →
    AreAtStages limits history table (with_stage stages s next)
stages-one limits history table stages s next size here at others slice in' =
    ⊎_elim
    (λ (same : slice ≡ s).
    subst (λ k. IsAtStage limits.columns history table k (stage_of (with_stage stages s next) k)) (sym same)
    (subst (IsAtStage limits.columns history table s) (sym (get_or-set_same stages.stages s next empty_stage (omega arith))) at))
    (λ (apart : slice ≢ s).
    subst (IsAtStage limits.columns history table slice) (sym (get_or-set_other stages.stages s slice next empty_stage apart)) (others slice in' apart))
    (cases_eq slice s)

-- events that claim no column of a slice, and neither begin to clear it nor open it
leaves_other_take : (pass s column slice : ℕ) → slice ≢ s → LeavesSlice slice (event.Take pass s column)
leaves_other_take pass s column slice apart = record { takes = ap (λ b. cond b (Some column) None) (ne_eqb s slice (λ same. apart (sym same))); clears = refl; opens = refl }

leaves_other_clear : (pass s slice : ℕ) → slice ≢ s → LeavesSlice slice (event.Clear pass s)
leaves_other_clear pass s slice apart = record { takes = refl; clears = ne_eqb s slice (λ same. apart (sym same)); opens = refl }

leaves_other_opened : (pass s slice : ℕ) (alone : Bool) → slice ≢ s → LeavesSlice slice (event.Opened pass s alone)
leaves_other_opened pass s slice alone apart = record { takes = refl; clears = refl; opens = ne_eqb s slice (λ same. apart (sym same)) }

module _ (limits : Limits) (history : List Event) (table : Table) (stages : StageTable) (legal : IsLegal limits history) (recorded : AreRecorded limits history table) (size : length stages.stages ≡ limits.slices) (each : AreAtStages limits history table stages) where
  -- an event that claims no column, clears nothing and opens nothing leaves the stages, where the records of the columns stay
  pub stages-same : (e : Event) → ((slice : ℕ) → LeavesSlice slice e) → AreAtStages limits (history ++ e ∷ []) table stages
  stages-same e leaves slice in' = stage-left limits.columns slice history e table table (stage_of stages slice) (leaves slice) refl (each slice in')

  -- another record of a column leaves the counts of the other slices
  count-other : (s column : ℕ) (y : Slot) (slice : ℕ) → IsColumn table s column → slice < limits.slices → slice ≢ s → count_over (with_slot table s column y) slice ≡ count_over table slice
  count-other s column y slice at in' apart =
      ap (count_by is_over) (slots_of-other table s column y slice at (let h = recorded.slices_are in omega arith) apart recorded.size)

  -- and that of its own, where the column isn't deleted or dropped before and after
  count-kept : (s column : ℕ) (y : Slot) → IsColumn table s column → is_over (slot_at table s column) ≡ false → is_over y ≡ false → count_over (with_slot table s column y) s ≡ count_over table s
  count-kept s column y at was is = let count = count-with_slot table s column y false false at recorded.size was is in omega arith

  -- where it is deleted or dropped now there is one more
  count-more : (s column : ℕ) (y : Slot) → IsColumn table s column → is_over (slot_at table s column) ≡ false → is_over y ≡ true → count_over (with_slot table s column y) s ≡ count_over table s + 1
  count-more s column y at was is = let count = count-with_slot table s column y false true at recorded.size was is in omega arith

  -- the column of the pass's take is one of the table, and neither deleted nor dropped
  pub taken_column : (pass s column : ℕ) → last_by pass history ≡ Some (event.Take pass s column) → (s < limits.slices) × (column < limits.columns) × (is_over (slot_at table s column) ≡ false)
  taken_column pass s column last =
      let pending = last_is_pending limits history s column pass legal last in
      let in' = pending_in_range limits history s column pass legal pending in
      let uncleared = pending_not_clearing limits history s column pass legal pending in
      let at = in_table limits history table legal recorded s column in'.0 in'.1 in (
        in'.0,
        in'.1,
        not_over_by_state limits history table legal recorded s column (record { slice_in_range = at.slice_in_range; column_in_range = at.column_in_range }) uncleared (Pending pass)
            (state_is limits history table legal recorded s column (Pending pass) in'.0 in'.1 uncleared pending) (λ over. over),
      )

  -- the next column of a slice is claimed
  pub stages-take : (pass s first over : ℕ) (y : Slot) → is_over y ≡ false → IsAllowed limits history (event.Take pass s first) → stage_of stages s ≡ stage.InUse first over →
      AreAtStages limits (history ++ event.Take pass s first ∷ []) (with_slot table s first y) (with_stage stages s (stage.InUse (first + 1) over))
  stages-take pass s first over y not_over allowed is =
      let e = event.Take pass s first in
      let here = (take_follows limits history pass s first legal allowed).in_range in
      let below = take_within limits history pass s first legal allowed in
      let used = used_slice limits history table legal recorded stages each s first over here is in
      let column = in_table limits history table legal recorded s first here below in
      let at : IsColumn table s first = record { slice_in_range = column.slice_in_range; column_in_range = column.column_in_range } in
      let was = not_over_by_state limits history table legal recorded s first at used.not_clearing Unclaimed
      (state_is limits history table legal recorded s first Unclaimed here below used.not_clearing (take_is_unclaimed limits history pass s first legal allowed)) (λ x. x) in
      stages-one limits (history ++ e ∷ []) (with_slot table s first y) stages s (stage.InUse (first + 1) over) size here
      (record {
        not_clearing = not_clearing-left s history e refl refl used.not_clearing;
        claims = claimed-take pass s first history ∙ ap (λ cs. cs ++ first ∷ []) used.claims
            ∙ sym (range_with_len-push 0 first ∙ ap (λ n. range_with_len 0 first ++ n ∷ []) (let z : 0 + first ≡ first = omega arith in z));
        within = omega arith;
        count = used.count ∙ sym (count-kept s first y at was not_over);
        some_left = used.some_left;
      })
      (λ slice in' apart.
      stage-left limits.columns slice history e table (with_slot table s first y) (stage_of stages slice) (leaves_other_take pass s first slice apart)
      (count-other s first y slice at in' apart) (each slice in'))

  -- a document is added on the column that its pass took
  pub stages-add : (pass id : ℕ) (text : List ℕ) (s column : ℕ) (bits : List Bit) (y : Slot) → is_over y ≡ false → IsAllowed limits history (event.Add pass id text s column bits) →
      AreAtStages limits (history ++ event.Add pass id text s column bits ∷ []) (with_slot table s column y) stages
  stages-add pass id text s column bits y not_over allowed slice in' =
      let e = event.Add pass id text s column bits in
      let taken = taken_column pass s column allowed.rule.taken in
      let at' = in_table limits history table legal recorded s column taken.0 taken.1 in
      let at : IsColumn table s column = record { slice_in_range = at'.slice_in_range; column_in_range = at'.column_in_range } in
      stage-left limits.columns slice history e table (with_slot table s column y) (stage_of stages slice) (record { takes = refl; clears = refl; opens = refl })
      (⊎_elim
      (λ (same : slice ≡ s). subst (λ k. count_over (with_slot table s column y) k ≡ count_over table k) (sym same) (count-kept s column y at taken.2 not_over))
      (λ (apart : slice ≢ s). count-other s column y slice at in' apart)
      (cases_eq slice s))
      (each slice in')

  -- one more column of a slice is deleted or dropped by an event: the slice retires with the last one
  pub ends_at : (e : Event) (next : Table) (s first over : ℕ) → s < limits.slices → LeavesSlice s e → AreRecorded limits (history ++ e ∷ []) next → IsLegal limits (history ++ e ∷ []) →
      IsUsedSlice limits.columns history table s first over → count_over next s ≡ over + 1 → IsAtStage limits.columns (history ++ e ∷ []) next s (after_end limits.columns (length history + 1) first over)
  ends_at e next s first over here leaves recorded_next legal_next used more =
      cond_both (over + 1 == limits.columns) (stage.Retired (length history + 1)) (stage.InUse first (over + 1)) (IsAtStage limits.columns (history ++ e ∷ []) next s)
      (λ last.
      let all : over + 1 ≡ limits.columns = eqb-true (over + 1) limits.columns last in
      record {
        not_clearing = not_clearing-left s history e leaves.opens leaves.clears used.not_clearing;
        retired = record {
          earlier = history;
          event = e;
          later = [];
          whole = refl;
          count = refl;
          stays = or_from (opens s e) false leaves.opens refl;
          not_before = λ over_before.
              let before = count_by_over limits history table legal recorded s here used.not_clearing over_before in
              let count = used.count in
              let left = used.some_left in
              absurd (omega arith);
          over = over_by_count limits (history ++ e ∷ []) next legal_next recorded_next s here (not_clearing-left s history e leaves.opens leaves.clears used.not_clearing) (more ∙ all);
        };
      })
      (λ not_last.
      let some : over + 1 ≢ limits.columns = eqb-false (over + 1) limits.columns not_last in
      let left = used.some_left in
      record {
        not_clearing = not_clearing-left s history e leaves.opens leaves.clears used.not_clearing;
        claims = claimed-other s history e leaves.opens leaves.takes ∙ used.claims;
        within = used.within;
        count = sym more;
        some_left = omega arith;
      })

  -- a column is deleted or dropped by an event that claims no column, clears nothing and opens nothing
  stages-end : (e : Event) (s column first over : ℕ) (y : Slot) → IsColumn table s column → is_over (slot_at table s column) ≡ false → is_over y ≡ true → ((slice : ℕ) → LeavesSlice slice e) →
      IsLegal limits (history ++ e ∷ []) → AreRecorded limits (history ++ e ∷ []) (with_slot table s column y) → stage_of stages s ≡ stage.InUse first over →
      AreAtStages limits (history ++ e ∷ []) (with_slot table s column y) (with_stage stages s (after_end limits.columns (length history + 1) first over))
  stages-end e s column first over y at' was is leaves legal_next recorded_next at_stage =
      let at : IsColumn table s column = record { slice_in_range = at'.slice_in_range; column_in_range = at'.column_in_range } in
      let slices_are = recorded.slices_are in
      let here : s < limits.slices = let h = at.slice_in_range in omega arith in
      let next = with_slot table s column y in
      let used = used_slice limits history table legal recorded stages each s first over here at_stage in
      stages-one limits (history ++ e ∷ []) next stages s (after_end limits.columns (length history + 1) first over) size here
      (ends_at e next s first over here (leaves s) recorded_next legal_next used (count-more s column y at was is ∙ ap (λ n. n + 1) (sym used.count)))
      (λ slice in' apart. stage-left limits.columns slice history e table next (stage_of stages slice) (leaves slice) (count-other s column y slice at in' apart) (each slice in'))

  -- a document is dropped for the column that its pass took
  pub stages-drop : (pass id : ℕ) (text : List ℕ) (s column first over : ℕ) (y : Slot) → is_over y ≡ true → IsAllowed limits history (event.Drop pass id text s column) →
      AreRecorded limits (history ++ event.Drop pass id text s column ∷ []) (with_slot table s column y) → stage_of stages s ≡ stage.InUse first over →
      AreAtStages limits (history ++ event.Drop pass id text s column ∷ []) (with_slot table s column y) (with_stage stages s (after_end limits.columns (length history + 1) first over))
  stages-drop pass id text s column first over y is allowed recorded_next at_stage =
      let e = event.Drop pass id text s column in
      let taken = taken_column pass s column allowed.rule.taken in
      let at = in_table limits history table legal recorded s column taken.0 taken.1 in
      stages-end e s column first over y (record { slice_in_range = at.slice_in_range; column_in_range = at.column_in_range }) taken.2 is
      (λ slice. record { takes = refl; clears = refl; opens = refl }) (legal-push limits history e legal allowed) recorded_next at_stage

  -- a column is left without a document by the pass that took it
  pub stages-void : (pass s column first over : ℕ) (y : Slot) → is_over y ≡ true → IsAllowed limits history (event.Void pass s column) →
      AreRecorded limits (history ++ event.Void pass s column ∷ []) (with_slot table s column y) → stage_of stages s ≡ stage.InUse first over →
      AreAtStages limits (history ++ event.Void pass s column ∷ []) (with_slot table s column y) (with_stage stages s (after_end limits.columns (length history + 1) first over))
  stages-void pass s column first over y is allowed recorded_next at_stage =
      let e = event.Void pass s column in
      let taken = taken_column pass s column allowed.rule.taken in
      let at = in_table limits history table legal recorded s column taken.0 taken.1 in
      stages-end e s column first over y (record { slice_in_range = at.slice_in_range; column_in_range = at.column_in_range }) taken.2 is
      (λ slice. record { takes = refl; clears = refl; opens = refl }) (legal-push limits history e legal allowed) recorded_next at_stage

  -- the live document of a column is deleted
  pub stages-delete : (pass s column first over : ℕ) (doc : Parts) (y : Slot) → IsColumn table s column → IsLiveIn (slot_at table s column) doc → is_over y ≡ true →
      IsAllowed limits history (event.Del pass doc.id) → AreRecorded limits (history ++ event.Del pass doc.id ∷ []) (with_slot table s column y) → stage_of stages s ≡ stage.InUse first over →
      AreAtStages limits (history ++ event.Del pass doc.id ∷ []) (with_slot table s column y) (with_stage stages s (after_end limits.columns (length history + 1) first over))
  stages-delete pass s column first over doc y at live is allowed recorded_next at_stage =
      let e = event.Del pass doc.id in
      stages-end e s column first over y at (live_not_over (slot_at table s column) doc live) is
      (λ slice. record { takes = refl; clears = refl; opens = refl }) (legal-push limits history e legal allowed) recorded_next at_stage

  -- a pass begins to clear a slice
  pub stages-clear : (pass s : ℕ) → IsAllowed limits history (event.Clear pass s) → AreAtStages limits (history ++ event.Clear pass s ∷ []) (without_slice table s) (with_stage stages s (stage.Clearing pass))
  stages-clear pass s allowed =
      let e = event.Clear pass s in
      let next = without_slice table s in
      let slices_are = recorded.slices_are in
      let here = allowed.rule.in_range in
      let in_table' : s < table.slices = omega arith in
      stages-one limits (history ++ e ∷ []) next stages s (stage.Clearing pass) size allowed.rule.in_range
      (in_span-push (λ x. pass_of x == pass && clears s x) s history e refl
      ∙ or_right (is_clearing_by pass s history) (pass == pass && s == s) (and_from (pass == pass) (s == s) (eq-eqb pass pass refl) (eq-eqb s s refl)))
      (λ slice in' apart.
      stage-left limits.columns slice history e table next (stage_of stages slice) (leaves_other_clear pass s slice apart)
      (ap (count_by is_over) (slots_of-without_other table s slice in_table' (omega arith) apart recorded.size)) (each slice in'))

  -- the pass opens the slice that it cleared
  pub stages-opened : (pass s : ℕ) (alone : Bool) → 0 < limits.columns → IsAllowed limits history (event.Opened pass s alone) →
      AreAtStages limits (history ++ event.Opened pass s alone ∷ []) (with_slice table s) (with_stage stages s empty_stage)
  stages-opened pass s alone some allowed =
      let e = event.Opened pass s alone in
      let next = with_slice table s in
      let slices_are = recorded.slices_are in
      let here = clears_in_range limits history legal pass s allowed.rule.cleared in
      let in_table' : s < table.slices = omega arith in
      stages-one limits (history ++ e ∷ []) next stages s empty_stage size here
      (record {
        not_clearing = not_clearing_opened s history e (eq-eqb s s refl);
        claims = claimed-opened pass s alone history;
        within = omega arith;
        count = sym (ap (count_by is_over) (recorded.cleared s in_table' (last_is_clearing limits history pass s legal allowed.rule.cleared)) ∙ none_over table.columns);
        some_left = some;
      })
      (λ slice in' apart.
      stage-left limits.columns slice history e table next (stage_of stages slice) (leaves_other_opened pass s slice alone apart) refl (each slice in'))
