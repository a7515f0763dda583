-- What the records become where a column has another slot, and where the slots of a slice are taken out or put back.
use Rattle.std.proofs.Common.{◌≡◌, ℕ, ◌<◌, true, false, List, ◌*◌, length, get_or, set, map, replicate, Option, Some, None, refl, sym, ap, ◌∙◌, subst, arith}
use Rattle.std.proofs.lemmas.List.{get_or_default, get_or-replicate, length-replicate}
use Rattle.std.proofs.lemmas.List.Elements.{All-replicate}
use Rattle.std.specs.List.{All, flat_map}
use Rattle.std.specs.Option.{is_none}
use Rattle.std.specs.Prelude.{slice_index}
use Rattle.document_store.specs.Slots.{AreHeld, ComesPastOver, HasDocRightly, IsColumn, IsTable, Table, free_slot, is_out, is_over, shown, slot_at, slots_of, table_of, with_slice, with_slot, without_slice}
use Rattle.document_store.specs.declared.column.Column.TheVariants as became
use Rattle.document_store.specs.declared.slots.Slot.{Slot}
use Rattle.document_store.proofs.HeldLemmas.{every_slot, free-all, held-back, held-long, held-new, held-none, held-set, held-there, none-out, slot_at-held, slot_at-there, slots_of-held, table-back, table-out, table-set, there-by}
use Rattle.document_store.proofs.PassedLemmas.{passed-none}
use Rattle.document_store.proofs.TableLemmas.{pending_has_none, slot_fits, table-end, table-same, table-with_slice, table-with_slot, table-without_slice}

-- what the code read of a slice
read : (held : List (Option (List Slot))) (slice : ℕ) (x o : Option (List Slot)) → x ≡ get_or held slice x → x ≡ o → slice < length held → get_or held slice None ≡ o
read held slice x o value is within = get_or_default held slice None x within ∙ sym value ∙ is

-- what the records keep
abbrev pub AreKept : ℕ → ℕ → List (Option (List Slot)) → List ℕ → Slot → Type 0
AreKept slices columns held first_over free = AreHeld slices columns held × IsTable (table_of slices columns held) first_over × (free ≡ free_slot)

module _ (slices columns : ℕ) (held : List (Option (List Slot))) (first_over : List ℕ) (free : Slot) (now : Table) (kept : AreKept slices columns held first_over free) (view : table_of slices columns held ≡ now)
    (slice : ℕ) (in_range : slice < now.slices) where
  abbrev before : Table
  before = table_of slices columns held

  slice_within : slice < slices
  slice_within = subst (λ (t : Table). slice < t.slices) (sym view) in_range

  pub held_within : slice < length held
  held_within = let h = kept.0.every_slice in let in' = slice_within in omega (arith, h, in')

  -- what was read there is what is held for the slice
  pub read-held : (x o : Option (List Slot)) → x ≡ get_or held slice x → x ≡ o → get_or held slice None ≡ o
  read-held x o value is = read held slice x o value is held_within

  -- the slots of the slice are taken out
  pub kept-out : AreKept slices columns (set held slice None) (set first_over slice 0) free
  kept-out = (
    held-none slices columns held kept.0 slice,
    subst (λ (t : Table). IsTable t (set first_over slice 0)) (sym (table-out slices columns held kept.0 slice slice_within)) (table-without_slice before first_over slice kept.1 slice_within),
    kept.2,
  )

  pub view-out : table_of slices columns (set held slice None) ≡ without_slice now slice
  view-out = table-out slices columns held kept.0 slice slice_within ∙ ap (λ (t : Table). without_slice t slice) view

  -- and free ones are put back
  module _ (slots : List Slot) (out : is_out now slice ≡ true) (count : length slots ≡ now.columns) (are_free : slots ≡ replicate (length slots) free_slot) where
    many : length slots ≡ columns
    many = count ∙ ap (λ (t : Table). t.columns) (sym view)

    back : table_of slices columns (set held slice (Some slots)) ≡ with_slice before slice
    back =
        table-back slices columns held kept.0 slice slots slice_within (subst (λ (t : Table). is_out t slice ≡ true) (sym view) out) (are_free ∙ ap (λ n. replicate n free_slot) many)

    pub kept-back : AreKept slices columns (set held slice (Some slots)) first_over free
    kept-back = (
      held-back slices columns held kept.0 slice slots many,
      subst (λ (t : Table). IsTable t first_over) (sym back) (table-with_slice before first_over slice kept.1),
      kept.2,
    )

    pub view-back : table_of slices columns (set held slice (Some slots)) ≡ with_slice now slice
    view-back = back ∙ ap (λ (t : Table). with_slice t slice) view

  -- a slice whose slots are in the records
  pub slots-there : is_out now slice ≡ false → (slots : List Slot) × (get_or held slice None ≡ Some slots)
  slots-there there = held-there slices columns held kept.0 slice slice_within (subst (λ (t : Table). is_out t slice ≡ false) (sym view) there)

  module _ (column : ℕ) (column_in_range : column < now.columns) where
    column_within : column < columns
    column_within = subst (λ (t : Table). column < t.columns) (sym view) column_in_range

    -- a column's slot, by what is held for its slice
    pub slot-held : (o : Option (List Slot)) → get_or held slice None ≡ o → slot_at now slice column ≡ get_or (shown columns o) column free_slot
    slot-held o is =
        ap (λ (t : Table). slot_at t slice column) (sym view) ∙ slot_at-held slices columns held kept.0 slice column slice_within column_within
        ∙ ap (λ (h : Option (List Slot)). get_or (shown columns h) column free_slot) is

    pub slot-out : get_or held slice None ≡ None → slot_at now slice column ≡ free_slot
    slot-out is = slot-held None is ∙ get_or-replicate columns column free_slot free_slot column_within

    -- has them, if it has them where one of its columns is free
    pub slots-unless : ((slot_at now slice column).column ≡ became.Free → is_out now slice ≡ false) → (slots : List Slot) × (get_or held slice None ≡ Some slots)
    slots-unless unless =
        held-there slices columns held kept.0 slice slice_within
        (there-by slices columns held kept.0 slice column slice_within column_within
        (subst (λ (t : Table). (slot_at t slice column).column ≡ became.Free → is_out t slice ≡ false) (sym view) unless))

    -- a pending column has no document
    pub no_doc : (pass : ℕ) × ((slot_at now slice column).column ≡ became.Pending pass) → (slot_at now slice column).doc ≡ None
    no_doc pending =
        pending_has_none (slot_at now slice column) pending.0
        (subst (λ (t : Table). HasDocRightly (slot_at t slice column)) view (slot_fits before first_over slice column kept.1 (record { slice_in_range = slice_within; column_in_range = column_within })))
        pending.1

    -- a column has another slot
    module _ (slots : List Slot) (has : get_or held slice None ≡ Some slots) where
      pub slot-read : slot_at now slice column ≡ get_or slots column free_slot
      slot-read = ap (λ (t : Table). slot_at t slice column) (sym view) ∙ slot_at-there slices columns held kept.0 slice column slots slice_within column_within has

      pub view-set : (slot : Slot) → table_of slices columns (set held slice (Some (set slots column slot))) ≡ with_slot now slice column slot
      view-set slot = table-set slices columns held kept.0 slice column slots slot slice_within column_within has ∙ ap (λ (t : Table). with_slot t slice column slot) view

      here : IsColumn before slice column
      here = record { slice_in_range = slice_within; column_in_range = column_within }

      pub kept-set : (slot : Slot) → is_over (slot_at now slice column) ≡ false → is_over slot ≡ false → HasDocRightly slot →
          AreKept slices columns (set held slice (Some (set slots column slot))) first_over free
      kept-set slot not_over still fits = (
        held-set slices columns held kept.0 slice column slots slot slice_within has,
        subst (λ (t : Table). IsTable t first_over) (sym (table-set slices columns held kept.0 slice column slots slot slice_within column_within has))
            (table-with_slot before first_over slice column slot kept.1 here (subst (λ (t : Table). is_over (slot_at t slice column) ≡ false) (sym view) not_over) still fits),
        kept.2,
      )

      -- or one that is over where that was
      pub kept-same : (slot : Slot) → is_over slot ≡ is_over (slot_at now slice column) → HasDocRightly slot → AreKept slices columns (set held slice (Some (set slots column slot))) first_over free
      kept-same slot same fits = (
        held-set slices columns held kept.0 slice column slots slot slice_within has,
        subst (λ (t : Table). IsTable t first_over) (sym (table-set slices columns held kept.0 slice column slots slot slice_within column_within has))
            (table-same before first_over slice column slot kept.1 here (same ∙ ap (λ (t : Table). is_over (slot_at t slice column)) (sym view)) fits),
        kept.2,
      )

      -- the slots of the slice
      own_slots : slots_of before slice ≡ slots
      own_slots = slots_of-held slices columns held kept.0 slice slice_within ∙ ap (shown columns) has

      -- as many as there are columns
      pub slots_long : length slots ≡ columns
      slots_long = held-long slices columns held kept.0 slice slots slice_within has

      -- so many of them are over first
      pub passed-held : ComesPastOver slots 0 (slice_index first_over slice)
      passed-held = subst (λ xs. ComesPastOver xs 0 (slice_index first_over slice)) own_slots (kept.1.passed slice slice_within)

      pub kept-end : (slot : Slot) (first : ℕ) → is_over (slot_at now slice column) ≡ false → HasDocRightly slot → ComesPastOver (set slots column slot) (slice_index first_over slice) first →
          AreKept slices columns (set held slice (Some (set slots column slot))) (set first_over slice first) free
      kept-end slot first not_over fits goes_on = (
        held-set slices columns held kept.0 slice column slots slot slice_within has,
        subst (λ (t : Table). IsTable t (set first_over slice first)) (sym (table-set slices columns held kept.0 slice column slots slot slice_within column_within has))
            (table-end before first_over slice column slot kept.1 here (subst (λ (t : Table). is_over (slot_at t slice column) ≡ false) (sym view) not_over) first fits
            (subst (λ xs. ComesPastOver (set xs column slot) (slice_index first_over slice) first) (sym own_slots) goes_on)),
        kept.2,
      )

-- new records
module _ (slices columns : ℕ) (held : List (Option (List Slot))) (is : held ≡ replicate slices (Some (replicate columns free_slot))) where
  pub slots-new : flat_map (shown columns) held ≡ replicate (slices * columns) free_slot
  slots-new = ap (flat_map (shown columns)) is ∙ free-all columns slices

  pub out-new : map is_none held ≡ replicate slices false
  out-new = ap (map is_none) is ∙ none-out slices (replicate columns free_slot)

  pub kept-new : (first_over : List ℕ) (free : Slot) → first_over ≡ replicate slices 0 → free ≡ free_slot → AreKept slices columns held first_over free
  kept-new first_over free none free_is =
      let are = subst (AreHeld slices columns) (sym is) (held-new slices columns) in (
        are,
        record {
          every_column = every_slot slices columns held are;
          docs = subst (All HasDocRightly) (sym slots-new) (All-replicate HasDocRightly (slices * columns) free_slot refl);
          every_slice = ap length none ∙ length-replicate slices 0;
          passed = λ slice here.
              let zero : slice_index first_over slice ≡ 0 = ap (λ (xs : List ℕ). slice_index xs slice) none ∙ get_or-replicate slices slice 0 0 here in
              let own : slots_of (table_of slices columns held) slice ≡ replicate columns free_slot =
              slots_of-held slices columns held are slice here
              ∙ ap (λ (hs : List (Option (List Slot))). shown columns (get_or hs slice None)) is
              ∙ ap (shown columns) (get_or-replicate slices slice (Some (replicate columns free_slot)) None here) in
              subst (λ n. ComesPastOver (slots_of (table_of slices columns held) slice) 0 n) (sym zero) (subst (λ xs. ComesPastOver xs 0 0) (sym own) (passed-none columns));
        },
        free_is,
      )
