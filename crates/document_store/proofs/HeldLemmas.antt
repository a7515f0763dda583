-- The slots of all slices, by those that are held slice by slice.
use Rattle.std.proofs.Common.{◌≡◌, ℕ, zero, suc, ◌+◌, ◌*◌, ◌-◌, ◌<◌, Bool, true, false, List, [], ◌∷◌, ◌++◌, length, get_or, set, take, drop, map, replicate, Option, Some, None, refl, sym, ap, ◌∙◌, subst, arith, append_assoc, length-append}
use Rattle.std.proofs.lemmas.List.{drop-drop, drop_at, get_or-append_right, get_or_append_left, get_or-map, get_or-replicate, length-set, length-replicate, map-set, replicate-append-replicate, set-append_left, set-append_right, set-get_or, take_at}
use Rattle.std.proofs.lemmas.List.Elements.{All-get_or, All-head, All-replicate, All-set, All-tail}
use Rattle.std.proofs.lemmas.Bool.{both_ways, false_from_ne_true}
use Rattle.std.specs.List.{All, flat_map}
use Rattle.std.specs.Option.{is_none}
use Rattle.document_store.specs.Slots.{AreHeld, Table, free_slot, is_out, shown, slot_at, slots_of, table_of, with_slice, with_slot, without_slice}
use Rattle.document_store.specs.declared.column.Column.TheVariants as became
use Rattle.document_store.specs.declared.slots.Slot.{Slot}

-- what is taken beyond a list comes from the one after it
take_past : (xs ys : List Slot) (n m : ℕ) → length xs ≡ n → take (n + m) (xs ++ ys) ≡ xs ++ take m ys
take_past [] ys n m long = ap (λ i. take i ys) (omega (arith, long))
take_past (x ∷ xs) ys n m long =
    ap (λ i. take i (x ∷ (xs ++ ys))) (let e : n + m ≡ suc (length xs + m) = omega (arith, long) in e) ∙ ap (λ zs. x ∷ zs) (take_past xs ys (length xs) m refl)

drop_past : (xs ys : List Slot) (n m : ℕ) → length xs ≡ n → drop (n + m) (xs ++ ys) ≡ drop m ys
drop_past xs ys n m long = sym (drop-drop m n (xs ++ ys)) ∙ ap (drop m) (drop_at xs ys n long)

-- the slots of a slice are held unless they were taken out
some_by : (o : Option (List Slot)) → is_none o ≡ false → (xs : List Slot) × (o ≡ Some xs)
some_by None is = cc
some_by (Some xs) is = (xs, refl)

none_by : (o : Option (List Slot)) → is_none o ≡ true → o ≡ None
none_by None is = refl
none_by (Some xs) is = cc

module _ (n : ℕ) where
  -- each slice has n slots, as they are shown
  abbrev IsEven : Option (List Slot) → Type 0
  IsEven slots = length (shown n slots) ≡ n

  abbrev Even : List (Option (List Slot)) → Type 0
  Even held = All IsEven held

  -- the slots of all slices
  abbrev all : List (Option (List Slot)) → List Slot
  all held = flat_map (shown n) held

  pub length-all : (held : List (Option (List Slot))) → Even held → length (all held) ≡ length held * n
  length-all [] even = omega arith
  length-all (x ∷ held) even =
      let rest = length-all held (All-tail IsEven x held even) in
      omega (arith, length-append (shown n x) (all held), All-head IsEven x held even, rest)

  pub at-all : (held : List (Option (List Slot))) (s k : ℕ) (d : Slot) → Even held → s < length held → k < n → get_or (all held) (s * n + k) d ≡ get_or (shown n (get_or held s None)) k d
  at-all [] s k d even in' low = absurd (omega (arith, in'))
  at-all (x ∷ held) zero k d even in' low =
      ap (λ i. get_or (shown n x ++ all held) i d) (let e : zero * n + k ≡ k = omega arith in e)
      ∙ get_or_append_left (shown n x) (all held) d k (omega (arith, low, All-head IsEven x held even))
  at-all (x ∷ held) (suc s) k d even in' low =
      ap (λ i. get_or (shown n x ++ all held) i d) (let e : suc s * n + k ≡ n + (s * n + k) = omega arith in e)
      ∙ get_or-append_right (shown n x) (all held) n (n + (s * n + k)) d (All-head IsEven x held even) (omega arith)
      ∙ ap (λ i. get_or (all held) i d) (let e : n + (s * n + k) - n ≡ s * n + k = omega arith in e)
      ∙ at-all held s k d (All-tail IsEven x held even) (omega (arith, in')) low

  -- another slot of a slice that is held
  pub set-all : (held : List (Option (List Slot))) (s k : ℕ) (xs : List Slot) (y : Slot) → Even held → s < length held → k < n → get_or held s None ≡ Some xs →
      all (set held s (Some (set xs k y))) ≡ set (all held) (s * n + k) y
  set-all [] s k xs y even in' low is = absurd (omega (arith, in'))
  set-all (x ∷ held) zero k xs y even in' low is =
      let long : length xs ≡ n = subst IsEven is (All-head IsEven x held even) in
      sym (set-append_left xs (all held) k y (omega (arith, low, long)))
      ∙ ap (λ (z : Option (List Slot)). set (shown n z ++ all held) k y) (sym is)
      ∙ ap (λ i. set (shown n x ++ all held) i y) (let e : k ≡ zero * n + k = omega arith in e)
  set-all (x ∷ held) (suc s) k xs y even in' low is =
      ap (λ zs. shown n x ++ zs) (set-all held s k xs y (All-tail IsEven x held even) (omega (arith, in')) low is)
      ∙ ap (λ i. shown n x ++ set (all held) i y) (let e : s * n + k ≡ n + (s * n + k) - n = omega arith in e)
      ∙ sym (set-append_right (shown n x) (all held) n (n + (s * n + k)) y (All-head IsEven x held even) (omega arith))
      ∙ ap (λ i. set (shown n x ++ all held) i y) (let e : n + (s * n + k) ≡ suc s * n + k = omega arith in e)

  -- others in the place of a slice's slots
  pub replace-all : (held : List (Option (List Slot))) (s : ℕ) (h : Option (List Slot)) → Even held → s < length held →
      all (set held s h) ≡ take (s * n) (all held) ++ (shown n h ++ drop ((s + 1) * n) (all held))
  replace-all [] s h even in' = absurd (omega (arith, in'))
  replace-all (x ∷ held) zero h even in' =
      let front = shown n x ++ all held in
      ap (λ ys. shown n h ++ ys) (sym (drop_at (shown n x) (all held) n (All-head IsEven x held even)))
      ∙ ap (λ i. shown n h ++ drop i front) (let e : n ≡ (zero + 1) * n = omega arith in e)
      ∙ ap (λ i. take i front ++ (shown n h ++ drop ((zero + 1) * n) front)) (let e : 0 ≡ zero * n = omega arith in e)
  replace-all (x ∷ held) (suc s) h even in' =
      let long = All-head IsEven x held even in
      let front = shown n x ++ all held in
      let taken : shown n x ++ take (s * n) (all held) ≡ take (suc s * n) front =
      sym (take_past (shown n x) (all held) n (s * n) long) ∙ ap (λ i. take i front) (let e : n + s * n ≡ suc s * n = omega arith in e) in
      let left : drop ((s + 1) * n) (all held) ≡ drop ((suc s + 1) * n) front =
      sym (drop_past (shown n x) (all held) n ((s + 1) * n) long) ∙ ap (λ i. drop i front) (let e : n + (s + 1) * n ≡ (suc s + 1) * n = omega arith in e) in
      let rest = shown n h ++ drop ((s + 1) * n) (all held) in
      ap (λ zs. shown n x ++ zs) (replace-all held s h (All-tail IsEven x held even) (omega (arith, in')))
      ∙ sym (append_assoc (shown n x) (take (s * n) (all held)) rest)
      ∙ ap (λ zs. zs ++ rest) taken
      ∙ ap (λ zs. take (suc s * n) front ++ (shown n h ++ zs)) left

  -- the slots of one slice
  pub of-all : (held : List (Option (List Slot))) (s : ℕ) → Even held → s < length held → take n (drop (s * n) (all held)) ≡ shown n (get_or held s None)
  of-all [] s even in' = absurd (omega (arith, in'))
  of-all (x ∷ held) zero even in' =
      ap (λ i. take n (drop i (shown n x ++ all held))) (let e : zero * n ≡ 0 = omega arith in e) ∙ take_at (shown n x) (all held) n (All-head IsEven x held even)
  of-all (x ∷ held) (suc s) even in' =
      ap (λ i. take n (drop i (shown n x ++ all held))) (let e : suc s * n ≡ n + s * n = omega arith in e)
      ∙ ap (take n) (drop_past (shown n x) (all held) n (s * n) (All-head IsEven x held even))
      ∙ of-all held s (All-tail IsEven x held even) (omega (arith, in'))

  -- the same slots, held otherwise
  pub same-all : (held : List (Option (List Slot))) (s : ℕ) (h : Option (List Slot)) → s < length held → shown n h ≡ shown n (get_or held s None) → all (set held s h) ≡ all held
  same-all [] s h in' same = absurd (omega (arith, in'))
  same-all (x ∷ held) zero h in' same = ap (λ zs. zs ++ all held) same
  same-all (x ∷ held) (suc s) h in' same = ap (λ zs. shown n x ++ zs) (same-all held s h (omega (arith, in')) same)

  -- all slots are free
  pub free-all : (m : ℕ) → all (replicate m (Some (replicate n free_slot))) ≡ replicate (m * n) free_slot
  free-all zero = ap (λ k. replicate k free_slot) (let e : 0 ≡ zero * n = omega arith in e)
  free-all (suc m) =
      ap (λ zs. replicate n free_slot ++ zs) (free-all m) ∙ replicate-append-replicate n (m * n) free_slot
      ∙ ap (λ k. replicate k free_slot) (let e : n + m * n ≡ suc m * n = omega arith in e)

pub none-out : (m : ℕ) (xs : List Slot) → map is_none (replicate m (Some xs)) ≡ replicate m false
none-out zero xs = refl
none-out (suc m) xs = ap (λ zs. false ∷ zs) (none-out m xs)

module _ (slices columns : ℕ) (held : List (Option (List Slot))) (are : AreHeld slices columns held) where
  abbrev table : Table
  table = table_of slices columns held

  -- whether a slice's slots are out, by what is held for it
  pub out-at : (slice : ℕ) → slice < slices → is_out table slice ≡ is_none (get_or held slice None)
  out-at slice in' = get_or-map is_none held slice None false (let h = are.every_slice in omega (arith, in', h))

  -- a slice whose slots aren't out has them
  pub held-there : (slice : ℕ) → slice < slices → is_out table slice ≡ false → (xs : List Slot) × (get_or held slice None ≡ Some xs)
  held-there slice in' there = some_by (get_or held slice None) (sym (out-at slice in') ∙ there)

  pub held-out : (slice : ℕ) → slice < slices → is_out table slice ≡ true → get_or held slice None ≡ None
  held-out slice in' out = none_by (get_or held slice None) (sym (out-at slice in') ∙ out)

  -- as many as there are columns
  pub held-long : (slice : ℕ) (xs : List Slot) → slice < slices → get_or held slice None ≡ Some xs → length xs ≡ columns
  held-long slice xs in' is =
      subst (IsEven columns) is (All-get_or (IsEven columns) held slice None (let h = are.every_slice in omega (arith, in', h)) are.every_column)

  -- a column's slot is that of its slice
  pub slot_at-held : (slice column : ℕ) → slice < slices → column < columns → slot_at table slice column ≡ get_or (shown columns (get_or held slice None)) column free_slot
  slot_at-held slice column in' low = at-all columns held slice column free_slot are.every_column (let h = are.every_slice in omega (arith, in', h)) low

  pub slot_at-there : (slice column : ℕ) (xs : List Slot) → slice < slices → column < columns → get_or held slice None ≡ Some xs → slot_at table slice column ≡ get_or xs column free_slot
  slot_at-there slice column xs in' low is = slot_at-held slice column in' low ∙ ap (λ (h : Option (List Slot)). get_or (shown columns h) column free_slot) is

  pub slot_at-out : (slice column : ℕ) → slice < slices → column < columns → get_or held slice None ≡ None → slot_at table slice column ≡ free_slot
  slot_at-out slice column in' low is =
      slot_at-held slice column in' low ∙ ap (λ (h : Option (List Slot)). get_or (shown columns h) column free_slot) is
      ∙ get_or-replicate columns column free_slot free_slot low

  -- a slice has its slots, where it has them if one of its columns is free
  pub there-by : (slice column : ℕ) → slice < slices → column < columns → ((slot_at table slice column).column ≡ became.Free → is_out table slice ≡ false) → is_out table slice ≡ false
  there-by slice column in' low unless =
      false_from_ne_true (is_out table slice)
      (λ out. both_ways (is_out table slice) (unless (ap (λ (slot : Slot). slot.column) (slot_at-out slice column in' low (held-out slice in' out)))) out)

  -- the slots of a slice are those that are held for it
  pub slots_of-held : (slice : ℕ) → slice < slices → slots_of table slice ≡ shown columns (get_or held slice None)
  slots_of-held slice in' = of-all columns held slice are.every_column (let h = are.every_slice in omega (arith, in', h))

  pub every_slot : length table.slots ≡ slices * columns
  every_slot = length-all columns held are.every_column ∙ ap (λ n. n * columns) are.every_slice

  still-out : (slice : ℕ) → slice < slices → (b : Bool) → is_out table slice ≡ b → set (map is_none held) slice b ≡ map is_none held
  still-out slice in' b is = ap (set (map is_none held) slice) (sym is) ∙ set-get_or (map is_none held) slice false

  -- another slot for a column
  pub table-set : (slice column : ℕ) (xs : List Slot) (y : Slot) → slice < slices → column < columns → get_or held slice None ≡ Some xs →
      table_of slices columns (set held slice (Some (set xs column y))) ≡ with_slot table slice column y
  table-set slice column xs y in' low is =
      let next = set held slice (Some (set xs column y)) in
      let slots = set-all columns held slice column xs y are.every_column (let h = are.every_slice in omega (arith, in', h)) low is in
      let there : is_out table slice ≡ false = out-at slice in' ∙ ap is_none is in
      let out : map is_none next ≡ map is_none held = map-set is_none held slice (Some (set xs column y)) ∙ still-out slice in' false there in
      ap (λ (zs : List Slot). record table { slots = zs; out = map is_none next }) slots
      ∙ ap (λ (zs : List Bool). record table { slots = set (all columns held) (slice * columns + column) y; out = zs }) out

  pub held-set : (slice column : ℕ) (xs : List Slot) (y : Slot) → slice < slices → get_or held slice None ≡ Some xs → AreHeld slices columns (set held slice (Some (set xs column y)))
  held-set slice column xs y in' is = record {
    every_slice = length-set held slice (Some (set xs column y)) ∙ are.every_slice;
    every_column = All-set (IsEven columns) held slice (Some (set xs column y)) (length-set xs column y ∙ held-long slice xs in' is) are.every_column;
  }

  -- the slots of a slice are taken out
  pub table-out : (slice : ℕ) → slice < slices → table_of slices columns (set held slice None) ≡ without_slice table slice
  table-out slice in' =
      let slots = replace-all columns held slice None are.every_column (let h = are.every_slice in omega (arith, in', h)) in
      ap (λ (zs : List Slot). record table { slots = zs; out = map is_none (set held slice None) }) slots
      ∙ ap (λ (zs : List Bool). record table {
        slots = take (slice * columns) (all columns held) ++ (replicate columns free_slot ++ drop ((slice + 1) * columns) (all columns held));
        out = zs;
      }) (map-set is_none held slice None)

  pub held-none : (slice : ℕ) → AreHeld slices columns (set held slice None)
  held-none slice = record {
    every_slice = length-set held slice None ∙ are.every_slice;
    every_column = All-set (IsEven columns) held slice None (length-replicate columns free_slot) are.every_column;
  }

  -- free ones are put back
  pub table-back : (slice : ℕ) (xs : List Slot) → slice < slices → is_out table slice ≡ true → xs ≡ replicate columns free_slot →
      table_of slices columns (set held slice (Some xs)) ≡ with_slice table slice
  table-back slice xs in' out free =
      let within : slice < length held = let h = are.every_slice in omega (arith, in', h) in
      let none = held-out slice in' out in
      let slots = same-all columns held slice (Some xs) within (free ∙ ap (shown columns) (sym none)) in
      ap (λ (zs : List Slot). record table { slots = zs; out = map is_none (set held slice (Some xs)) }) slots
      ∙ ap (λ (zs : List Bool). record table { out = zs }) (map-set is_none held slice (Some xs))

  pub held-back : (slice : ℕ) (xs : List Slot) → length xs ≡ columns → AreHeld slices columns (set held slice (Some xs))
  held-back slice xs long = record {
    every_slice = length-set held slice (Some xs) ∙ are.every_slice;
    every_column = All-set (IsEven columns) held slice (Some xs) long are.every_column;
  }

-- new records
pub held-new : (slices columns : ℕ) → AreHeld slices columns (replicate slices (Some (replicate columns free_slot)))
held-new slices columns = record {
  every_slice = length-replicate slices (Some (replicate columns free_slot));
  every_column = All-replicate (IsEven columns) slices (Some (replicate columns free_slot)) (length-replicate columns free_slot);
}
