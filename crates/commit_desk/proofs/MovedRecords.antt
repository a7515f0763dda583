-- What is recorded of columns, live numbers and slices after a document was taken off its column and one with its number put on another: the
-- same, which moved there, or a new one, which takes its place.
use Rattle.std.proofs.Common.{◌≡◌, ◌≢◌, ⊎_elim, ℕ, ◌+◌, ◌<◌, ◌*◌, true, false, ◌&&◌, cond, List, [], ◌∷◌, ◌++◌, length, count_by, Some, None, refl, sym, ap, ◌∙◌, subst, arith}
use Rattle.std.proofs.lemmas.Bool.{and_from, both_ways, cases_eq, cond-false, cond-true, eq-eqb}
use Rattle.std.proofs.lemmas.List.{length-set}
use Rattle.std.specs.Prelude.{◌==◌}
use Rattle.document_store.specs.Documents.{Parts}
use Rattle.document_store.specs.Entries.{Entries}
use Rattle.document_store.specs.Entries.{column_of as entry_of}
use Rattle.document_store.specs.Slots.{IsColumn, Table, slot_at, with_slot, is_over}
use Rattle.document_store.specs.declared.column.Column.TheVariants as became
use Rattle.document_store.specs.declared.slots.Slot.{Slot}
use Rattle.funnel_model.specs.declared.bit_list.Bit.{Bit}
use Rattle.funnel_model.specs.declared.event.Event.{Event}
use Rattle.funnel_model.specs.declared.event.Event.TheVariants as event
use Rattle.funnel_model.specs.History.{Document, document_with, last_by, place}
use Rattle.funnel_model.specs.Legal.{IsAllowed, IsLegal, Limits}
use Rattle.funnel_model.specs.Slices.{ColumnState, Deleted, Live, is_clearing}
use Rattle.funnel_model.specs.Words.{AreWordsOf}
use Rattle.funnel_model.proofs.ColumnStates.{after, after-add, after-move, after_moved, after_taken_off}
use Rattle.funnel_model.proofs.Histories.{legal-push}
use Rattle.slice_stages.specs.Stages.{StageTable, after_end, stage_of, with_stage}
use Rattle.slice_stages.specs.declared.stage.Stage.TheVariants as stage
use Rattle.commit_desk.specs.Records.{AreListed, AreRecorded, IsLiveIn, IsRecorded, document_added_at, state_of}
use Rattle.commit_desk.proofs.ListedKept.{listed-add, listed-delete}
use Rattle.commit_desk.proofs.RecordFacts.{live_is_open}
use Rattle.commit_desk.proofs.Options.{some_same}
use Rattle.commit_desk.proofs.RecordsKept.{clearing-still, live_apart, not_taken_off, recorded_now, recorded_still, taken_is_open}
use Rattle.commit_desk.proofs.Slots.{count-with_slot, live_not_over, slots_of-other, state-live, with_slot-cases}
use Rattle.commit_desk.proofs.StageReadings.{AreAtStages, used_slice}
use Rattle.commit_desk.proofs.StagesKept.{LeavesSlice, count_over, ends_at, stage-left, stages-one}

-- where a document with this number is taken off each column but one by the event, and this one is live there then
pub record TakesPlace (history : List Event) (s c : ℕ) (id : ℕ) (document : Document) (e : Event) : Type 0 where
  pub off : (slice column : ℕ) (x : ColumnState) → (s == slice && c == column) ≡ false → after slice column history x e ≡ after_taken_off id (length history + 1) x
  pub there : (x : ColumnState) → after s c history x e ≡ Live document (length history + 1)
  pub leaves : (slice : ℕ) → LeavesSlice slice e

-- a move of a live document does so
pub move_takes_place : (history : List Event) (pass s c : ℕ) (d : Document) (bits : List Bit) → document_with d.id history ≡ Some d →
    TakesPlace history s c d.id d (event.Move pass d.id s c bits)
move_takes_place history pass s c d bits found = record {
  off = λ slice column x apart.
      cond-false (s == slice && c == column) (after_moved (document_with d.id history) (length history + 1) x) (after_taken_off d.id (length history + 1) x) apart;
  there = λ x. after-move s c history pass d bits x found;
  leaves = λ slice. record { takes = refl; clears = refl; opens = refl };
}

-- and so does an add
pub add_takes_place : (history : List Event) (pass s c : ℕ) (doc : Parts) (bits : List Bit) →
    TakesPlace history s c doc.id (document_added_at (place history + 1) doc) (event.Add pass doc.id doc.text s c bits)
add_takes_place history pass s c doc bits = record {
  off = λ slice column x apart.
      cond-false (s == slice && c == column) (Live (document_added_at (place history + 1) doc) (length history + 1)) (after_taken_off doc.id (length history + 1) x) apart;
  there = λ x. after-add s c history pass doc.id doc.text bits x;
  leaves = λ slice. record { takes = refl; clears = refl; opens = refl };
}

-- the document of a column was taken off it by the event with this number
abbrev pub over_slot : (slot : Slot) (doc : Parts) → IsLiveIn slot doc → ℕ → Slot
over_slot slot doc l until = record { column = became.Over l.added l.since until; doc = Some doc }

-- and it is live in another since then
abbrev pub moved_slot : ℕ → Parts → ℕ → Slot
moved_slot added doc since = record { column = became.Live added since; doc = Some doc }

-- the records after both
abbrev pub moved_table : Table → (f l : ℕ) → Slot → (s c : ℕ) → Slot → Table
moved_table table f l gone s c new = with_slot (with_slot table f l gone) s c new

module _ (limits : Limits) (history : List Event) (table : Table) (legal : IsLegal limits history) (recorded : AreRecorded limits history table)
    (f l s c : ℕ) (doc new : Parts) (added : ℕ) (lives : IsLiveIn (slot_at table f l) doc) (from : IsColumn table f l) (to : IsColumn table s c)
    (same_id : new.id ≡ doc.id) where
  -- the columns stand apart
  module _ (apart : (s == f && c == l) ≡ false) (pass : ℕ) (e : Event) (allowed : IsAllowed limits history e) (took : last_by pass history ≡ Some (event.Take pass s c))
      (takes : TakesPlace history s c doc.id (document_added_at added new) e) (of_text : AreWordsOf new.words new.text) where
    abbrev middle : Table
    middle = with_slot table f l (over_slot (slot_at table f l) doc lives (length history + 1))

    -- neither slice is being cleared
    open_from : is_clearing f history ≡ false
    open_from = live_is_open limits history table legal recorded f l doc (record { slice_in_range = from.slice_in_range; column_in_range = from.column_in_range }) lives

    open_to : is_clearing s history ≡ false
    open_to = taken_is_open limits history table legal recorded pass s c took

    still : (slice : ℕ) → is_clearing slice (history ++ e ∷ []) ≡ is_clearing slice history
    still slice = clearing-still history e slice ((takes.leaves slice).opens, (takes.leaves slice).clears)

    -- where it was it is deleted
    gone_now : IsRecorded (history ++ e ∷ []) f l (over_slot (slot_at table f l) doc lives (length history + 1))
    gone_now =
        let x = slot_at table f l in
        let was = recorded.each f l (record { slice_in_range = from.slice_in_range; column_in_range = from.column_in_range }) open_from in
        let document = document_added_at lives.added doc in
        let until = length history + 1 in
        recorded_now limits history e legal allowed f l x (over_slot x doc lives until) was (doc, refl)
        (sym (takes.off f l (state_of x) apart
        ∙ ap (after_taken_off doc.id until) (state-live x doc lives)
        ∙ cond-true (doc.id == doc.id) (Deleted document lives.since until) (Live document lives.since) (eq-eqb doc.id doc.id refl)))
        (λ other is. was.words_of_text other (lives.doc_is ∙ is))

    -- where it went it is live
    there_now : IsRecorded (history ++ e ∷ []) s c (moved_slot added new (length history + 1))
    there_now =
        let x = slot_at table s c in
        recorded_now limits history e legal allowed s c x (moved_slot added new (length history + 1)) (recorded.each s c (record { slice_in_range = to.slice_in_range; column_in_range = to.column_in_range }) open_to) (new, refl)
        (sym (takes.there (state_of x)))
        (λ other is. subst (λ (p : Parts). AreWordsOf p.words p.text) (some_same new other is) of_text)

    -- and another column stays as it is
    other_now : (slice column : ℕ) → IsColumn table slice column → is_clearing slice history ≡ false → (s == slice && c == column) ≡ false → (f == slice && l == column) ≡ false →
        IsRecorded (history ++ e ∷ []) slice column (slot_at table slice column)
    other_now slice column at uncleared not_there not_gone =
        let x = slot_at table slice column in
        let until = length history + 1 in
        recorded_still limits history e legal allowed slice column x (recorded.each slice column (record { slice_in_range = at.slice_in_range; column_in_range = at.column_in_range }) uncleared)
        (takes.off slice column (state_of x) not_there
        ∙ not_taken_off doc.id until (state_of x)
        (λ other since is same_id. both_ways (f == slice && l == column) not_gone (live_apart limits history table legal recorded f l slice column doc other since from at lives is same_id)))

    middle_size : length middle.slots ≡ middle.slices * middle.columns
    middle_size = length-set table.slots (f * table.columns + l) (over_slot (slot_at table f l) doc lives (length history + 1)) ∙ recorded.size

    -- the columns are two
    not_one : s ≡ f → c ≡ l → ⊥
    not_one one two = both_ways (s == f && c == l) apart (and_from (s == f) (c == l) (eq-eqb s f one) (eq-eqb c l two))

    -- where it went nothing changed before
    there_before : slot_at middle s c ≡ slot_at table s c
    there_before =
        ⊎_elim (λ one. absurd (not_one one.1 one.2)) (λ other. other.1)
        (with_slot-cases table f l (over_slot (slot_at table f l) doc lives (length history + 1)) s c from to recorded.size)

    pub recorded-moved : AreRecorded limits (history ++ e ∷ []) (moved_table table f l (over_slot (slot_at table f l) doc lives (length history + 1)) s c (moved_slot added new (length history + 1)))
    recorded-moved =
        let y = over_slot (slot_at table f l) doc lives (length history + 1) in
        let z = moved_slot added new (length history + 1) in
        let h = history ++ e ∷ [] in
        record {
          slices_are = recorded.slices_are;
          columns_are = recorded.columns_are;
          size = length-set middle.slots (s * table.columns + c) z ∙ middle_size;
          out_size = recorded.out_size;
          each = λ slice column in' uncleared.
              let at : IsColumn table slice column = record { slice_in_range = in'.slice_in_range; column_in_range = in'.column_in_range } in
              let at_middle : IsColumn middle slice column = record { slice_in_range = in'.slice_in_range; column_in_range = in'.column_in_range } in
              let to_middle : IsColumn middle s c = record { slice_in_range = to.slice_in_range; column_in_range = to.column_in_range } in
              ⊎_elim
              (λ one. subst (IsRecorded h slice column) (sym one.3)
              (subst (λ k. IsRecorded h k column z) (sym one.1) (subst (λ k. IsRecorded h s k z) (sym one.2) there_now)))
              (λ other. subst (IsRecorded h slice column) (sym other.1)
              (⊎_elim
              (λ here. subst (IsRecorded h slice column) (sym here.3)
              (subst (λ k. IsRecorded h k column y) (sym here.1) (subst (λ k. IsRecorded h f k y) (sym here.2) gone_now)))
              (λ apart_too. subst (IsRecorded h slice column) (sym apart_too.1) (other_now slice column at (sym (still slice) ∙ uncleared) other.0 apart_too.0))
              (with_slot-cases table f l y slice column from at recorded.size)))
              (with_slot-cases middle s c z slice column to_middle at_middle middle_size);
          out = λ slice in'. recorded.out slice in' ∙ sym (still slice);
          cleared = λ slice in' clearing.
              let was = sym (still slice) ∙ clearing in
              let to_middle : IsColumn middle s c = record { slice_in_range = to.slice_in_range; column_in_range = to.column_in_range } in
              slots_of-other middle s c z slice to_middle in' (λ one. both_ways (is_clearing s history) open_to (ap (λ k. is_clearing k history) (sym one) ∙ was)) middle_size
              ∙ slots_of-other table f l y slice from in' (λ one. both_ways (is_clearing f history) open_from (ap (λ k. is_clearing k history) (sym one) ∙ was)) recorded.size
              ∙ recorded.cleared slice in' was;
        }

    -- the list of live numbers has its number with the new column
    module _ (live without next : Entries) (listed : AreListed table live) (none_there : (other : Parts) → IsLiveIn (slot_at table s c) other → ⊥)
        (taken : (other : ℕ) → entry_of without other ≡ cond (other == doc.id) None (entry_of live other)) (without_slices : without.slices ≡ live.slices) (without_columns : without.columns ≡ live.columns)
        (put : (other : ℕ) → entry_of next other ≡ cond (other == new.id) (Some (s, c)) (entry_of without other)) (next_slices : next.slices ≡ without.slices) (next_columns : next.columns ≡ without.columns) where
      pub listed-moved : AreListed (moved_table table f l (over_slot (slot_at table f l) doc lives (length history + 1)) s c (moved_slot added new (length history + 1))) next
      listed-moved =
          let y = over_slot (slot_at table f l) doc lives (length history + 1) in
          let until = length history + 1 in
          let to_middle : IsColumn middle s c = record { slice_in_range = to.slice_in_range; column_in_range = to.column_in_range } in
          let first = listed-delete table live recorded.size listed f l until doc lives without from taken without_slices without_columns in
          let none_now : (other : Parts) → IsLiveIn (slot_at middle s c) other → ⊥ = λ other is. none_there other (subst (λ (x : Slot). IsLiveIn x other) there_before is) in
          listed-add middle without middle_size first s c added until new next to_middle none_now
          (taken new.id ∙ cond-true (new.id == doc.id) None (entry_of live new.id) (eq-eqb new.id doc.id same_id)) put next_slices next_columns

    -- and the slice that it left has one more column that is over
    module _ (stages : StageTable) (size : length stages.stages ≡ limits.slices) (each : AreAtStages limits history table stages) (first over : ℕ) (at_stage : stage_of stages f ≡ stage.InUse first over)
        (target : is_over (slot_at table s c) ≡ false) where
      abbrev moved_after : Table
      moved_after = moved_table table f l (over_slot (slot_at table f l) doc lives (length history + 1)) s c (moved_slot added new (length history + 1))

      count_there : (slice : ℕ) → slice < limits.slices → count_over moved_after slice ≡ count_over middle slice
      count_there slice in' =
          let z = moved_slot added new (length history + 1) in
          let to_middle : IsColumn middle s c = record { slice_in_range = to.slice_in_range; column_in_range = to.column_in_range } in
          ⊎_elim
          (λ (here : slice ≡ s).
          let count = count-with_slot middle s c z false false to_middle middle_size (ap is_over there_before ∙ target) refl in
          subst (λ k. count_over moved_after k ≡ count_over middle k) (sym here) (omega (arith, count)))
          (λ (other : slice ≢ s). ap (count_by is_over) (slots_of-other middle s c z slice to_middle (let h = recorded.slices_are in omega arith) other middle_size))
          (cases_eq slice s)

      count_gone : count_over middle f ≡ count_over table f + 1
      count_gone =
          let count = count-with_slot table f l (over_slot (slot_at table f l) doc lives (length history + 1)) false true from recorded.size (live_not_over (slot_at table f l) doc lives) refl in
          omega (arith, count)

      count_other : (slice : ℕ) → slice < limits.slices → slice ≢ f → count_over middle slice ≡ count_over table slice
      count_other slice in' other =
          ap (count_by is_over) (slots_of-other table f l (over_slot (slot_at table f l) doc lives (length history + 1)) slice from (let h = recorded.slices_are in omega arith) other recorded.size)

      pub stages-moved : AreAtStages limits (history ++ e ∷ []) moved_after (with_stage stages f (after_end limits.columns (length history + 1) first over))
      stages-moved =
          let here : f < limits.slices = let h = from.slice_in_range in let k = recorded.slices_are in omega arith in
          let used = used_slice limits history table legal recorded stages each f first over here at_stage in
          stages-one limits (history ++ e ∷ []) moved_after stages f (after_end limits.columns (length history + 1) first over) size here
          (ends_at limits history table stages legal recorded size each e moved_after f first over here (takes.leaves f) recorded-moved
          (legal-push limits history e legal allowed) used (count_there f here ∙ count_gone ∙ ap (λ n. n + 1) (sym used.count)))
          (λ slice in' other.
          stage-left limits.columns slice history e table moved_after (stage_of stages slice) (takes.leaves slice)
          (count_there slice in' ∙ count_other slice in' other) (each slice in'))
