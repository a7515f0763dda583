-- What holds of a table once a column has another slot, and once the slots of a slice were taken out or put back.
use Rattle.std.proofs.Common.{◌≡◌, ◌≢◌, ℕ, ◌+◌, ◌*◌, ◌<◌, false, List, None, ◌++◌, length, get_or, set, take, drop, replicate, refl, sym, ap, ◌∙◌, subst, ⊎_elim, arith}
use Rattle.std.proofs.lemmas.Bool.{cases_eq}
use Rattle.std.proofs.lemmas.List.{get_or-set_other, get_or-set_same, length-set}
use Rattle.std.proofs.lemmas.List.Elements.{All-append, All-drop, All-get_or, All-replicate, All-set, All-take}
use Rattle.std.specs.Prelude.{slice_index}
use Rattle.document_store.proofs.PassedLemmas.{passed-end, passed-none, passed-same, passed-set}
use Rattle.document_store.proofs.SlotLemmas.{column_within, length-slots_of, length-without_slice, slot_at-slots_of, slots_of-with_slot, slots_of-with_slot_other, slots_of-without_slice, slots_of-without_slice_other}
use Rattle.document_store.specs.Slots.{ComesPastOver, MayHold, HasDocRightly, IsColumn, IsTable, Table, free_slot, is_over, slot_at, slots_of, with_slice, with_slot, without_slice}
use Rattle.document_store.specs.declared.column.Column.{Column}
use Rattle.document_store.specs.declared.column.Column.TheVariants as became
use Rattle.document_store.specs.declared.slots.Slot.{Slot}

-- a slot of a table has the document of its column
pub slot_fits : (table : Table) (first_over : List ℕ) (slice at : ℕ) → IsTable table first_over → IsColumn table slice at → HasDocRightly (slot_at table slice at)
slot_fits table first_over slice at is in' =
    All-get_or HasDocRightly table.slots (slice * table.columns + at) free_slot (column_within table slice at in' is.every_column) is.docs

-- a pending column has none
pub pending_has_none : (slot : Slot) (pass : ℕ) → HasDocRightly slot → slot.column ≡ became.Pending pass → slot.doc ≡ None
pending_has_none slot pass fits is = subst (λ (k : Column). MayHold k slot.doc) is fits

module _ (table : Table) (first_over : List ℕ) (slice at : ℕ) (slot : Slot) (is : IsTable table first_over) (in' : IsColumn table slice at) (not_over : is_over (slot_at table slice at) ≡ false) where
  abbrev next : Table
  next = with_slot table slice at slot

  column_of_slice : at < length (slots_of table slice)
  column_of_slice = let long = length-slots_of table slice in'.slice_in_range is.every_column in let low = in'.column_in_range in omega (arith, long, low)

  not_over_there : is_over (get_or (slots_of table slice) at free_slot) ≡ false
  not_over_there = ap is_over (sym (slot_at-slots_of table slice at in'.column_in_range)) ∙ not_over

  -- the slots of another slice stay as they are
  passed_other : (other first : ℕ) → other ≢ slice → ComesPastOver (slots_of table other) 0 first → ComesPastOver (slots_of next other) 0 first
  passed_other other first differ = subst (λ slots. ComesPastOver slots 0 first) (sym (slots_of-with_slot_other table slice at other slot in'.column_in_range differ))

  -- and its own have the new one
  slots_next : slots_of next slice ≡ set (slots_of table slice) at slot
  slots_next = slots_of-with_slot table slice at slot in'.column_in_range

  passed_still : is_over slot ≡ false → (other : ℕ) → other < table.slices → ComesPastOver (slots_of next other) 0 (slice_index first_over other)
  passed_still still other here =
      ⊎_elim
      (λ (same : other ≡ slice).
      let own : ComesPastOver (slots_of next slice) 0 (slice_index first_over slice) =
      subst (λ slots. ComesPastOver slots 0 (slice_index first_over slice)) (sym slots_next)
      (passed-set (slots_of table slice) at slot column_of_slice not_over_there (slice_index first_over slice) still (is.passed slice in'.slice_in_range)) in
      subst (λ s. ComesPastOver (slots_of next s) 0 (slice_index first_over s)) (sym same) own)
      (λ ne. passed_other other (slice_index first_over other) ne (is.passed other here))
      (cases_eq other slice)

  -- a column that is not over has another slot that isn't
  pub table-with_slot : is_over slot ≡ false → HasDocRightly slot → IsTable next first_over
  table-with_slot still fits = record {
    every_column = length-set table.slots (slice * table.columns + at) slot ∙ is.every_column;
    docs = All-set HasDocRightly table.slots (slice * table.columns + at) slot fits is.docs;
    every_slice = is.every_slice;
    passed = passed_still still;
  }

  passed_on : (first : ℕ) → ComesPastOver (set (slots_of table slice) at slot) (slice_index first_over slice) first → (other : ℕ) → other < table.slices →
      ComesPastOver (slots_of next other) 0 (slice_index (set first_over slice first) other)
  passed_on first goes_on other here =
      ⊎_elim
      (λ (same : other ≡ slice).
      let now : slice_index (set first_over slice first) slice ≡ first = get_or-set_same first_over slice first 0 (let every = is.every_slice in let low = in'.slice_in_range in omega (arith, every, low)) in
      let whole : ComesPastOver (set (slots_of table slice) at slot) 0 first =
      passed-end (slots_of table slice) at slot column_of_slice not_over_there (slice_index first_over slice) first (is.passed slice in'.slice_in_range) goes_on in
      let own : ComesPastOver (slots_of next slice) 0 (slice_index (set first_over slice first) slice) =
      subst (λ n. ComesPastOver (slots_of next slice) 0 n) (sym now) (subst (λ slots. ComesPastOver slots 0 first) (sym slots_next) whole) in
      subst (λ s. ComesPastOver (slots_of next s) 0 (slice_index (set first_over slice first) s)) (sym same) own)
      (λ ne.
      let still : slice_index (set first_over slice first) other ≡ slice_index first_over other = get_or-set_other first_over slice other first 0 ne in
      subst (λ n. ComesPastOver (slots_of next other) 0 n) (sym still) (passed_other other (slice_index first_over other) ne (is.passed other here)))
      (cases_eq other slice)

  -- or one that is over, past which one comes
  pub table-end : (first : ℕ) → HasDocRightly slot → ComesPastOver (set (slots_of table slice) at slot) (slice_index first_over slice) first → IsTable next (set first_over slice first)
  table-end first fits goes_on = record {
    every_column = length-set table.slots (slice * table.columns + at) slot ∙ is.every_column;
    docs = All-set HasDocRightly table.slots (slice * table.columns + at) slot fits is.docs;
    every_slice = length-set first_over slice first ∙ is.every_slice;
    passed = passed_on first goes_on;
  }

-- a column has another slot, which is over where that was
pub table-same : (table : Table) (first_over : List ℕ) (slice at : ℕ) (slot : Slot) → IsTable table first_over → IsColumn table slice at → is_over slot ≡ is_over (slot_at table slice at) →
    HasDocRightly slot → IsTable (with_slot table slice at slot) first_over
table-same table first_over slice at slot is in' same fits = record {
  every_column = length-set table.slots (slice * table.columns + at) slot ∙ is.every_column;
  docs = All-set HasDocRightly table.slots (slice * table.columns + at) slot fits is.docs;
  every_slice = is.every_slice;
  passed = λ other here.
      ⊎_elim
      (λ (own : other ≡ slice).
      let long = length-slots_of table slice in'.slice_in_range is.every_column in
      let low = in'.column_in_range in
      let past : ComesPastOver (slots_of (with_slot table slice at slot) slice) 0 (slice_index first_over slice) =
      subst (λ slots. ComesPastOver slots 0 (slice_index first_over slice)) (sym (slots_of-with_slot table slice at slot in'.column_in_range))
      (passed-same (slots_of table slice) at slot (omega (arith, long, low)) (same ∙ ap is_over (slot_at-slots_of table slice at in'.column_in_range)) (slice_index first_over slice)
      (is.passed slice in'.slice_in_range)) in
      subst (λ s. ComesPastOver (slots_of (with_slot table slice at slot) s) 0 (slice_index first_over s)) (sym own) past)
      (λ ne.
      subst (λ slots. ComesPastOver slots 0 (slice_index first_over other)) (sym (slots_of-with_slot_other table slice at other slot in'.column_in_range ne)) (is.passed other here))
      (cases_eq other slice);
}

-- free slots are put back for a slice
pub table-with_slice : (table : Table) (first_over : List ℕ) (slice : ℕ) → IsTable table first_over → IsTable (with_slice table slice) first_over
table-with_slice table first_over slice is = record {
  every_column = is.every_column;
  docs = is.docs;
  every_slice = is.every_slice;
  passed = λ other here. is.passed other here;
}

-- the slots of a slice are taken out
pub table-without_slice : (table : Table) (first_over : List ℕ) (slice : ℕ) → IsTable table first_over → slice < table.slices → IsTable (without_slice table slice) (set first_over slice 0)
table-without_slice table first_over slice is in' = record {
  every_column = length-without_slice table slice in' is.every_column ∙ is.every_column;
  docs =
      All-append HasDocRightly (take (slice * table.columns) table.slots) (replicate table.columns free_slot ++ drop ((slice + 1) * table.columns) table.slots)
      (All-take HasDocRightly (slice * table.columns) table.slots is.docs)
      (All-append HasDocRightly (replicate table.columns free_slot) (drop ((slice + 1) * table.columns) table.slots)
      (All-replicate HasDocRightly table.columns free_slot refl) (All-drop HasDocRightly ((slice + 1) * table.columns) table.slots is.docs));
  every_slice = length-set first_over slice 0 ∙ is.every_slice;
  passed = λ other here.
      ⊎_elim
      (λ (same : other ≡ slice).
      let none : slice_index (set first_over slice 0) slice ≡ 0 = get_or-set_same first_over slice 0 0 (let every = is.every_slice in omega (arith, every, in')) in
      let own : ComesPastOver (slots_of (without_slice table slice) slice) 0 (slice_index (set first_over slice 0) slice) =
      subst (λ n. ComesPastOver (slots_of (without_slice table slice) slice) 0 n) (sym none)
      (subst (λ slots. ComesPastOver slots 0 0) (sym (slots_of-without_slice table slice in' is.every_column)) (passed-none table.columns)) in
      subst (λ s. ComesPastOver (slots_of (without_slice table slice) s) 0 (slice_index (set first_over slice 0) s)) (sym same) own)
      (λ ne.
      let still : slice_index (set first_over slice 0) other ≡ slice_index first_over other = get_or-set_other first_over slice other 0 0 ne in
      subst (λ n. ComesPastOver (slots_of (without_slice table slice) other) 0 n) (sym still)
      (subst (λ slots. ComesPastOver slots 0 (slice_index first_over other)) (sym (slots_of-without_slice_other table slice other in' is.every_column ne)) (is.passed other here)))
      (cases_eq other slice);
}
