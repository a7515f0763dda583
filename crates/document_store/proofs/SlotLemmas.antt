-- What is kept of a column after a change, and the slots of a slice.
use Rattle.std.proofs.Common.{◌≡◌, ◌≢◌, ℕ, ◌+◌, ◌*◌, ◌-◌, ◌<◌, ◌≤◌, true, List, ◌++◌, length, get_or, set, take, drop, replicate, sym, ap, ◌∙◌, ⊎_elim, arith}
use Rattle.std.proofs.Math.Nat.{mul-le-mul_left}
use Rattle.std.proofs.Math.Seq.{take-set-lt}
use Rattle.std.proofs.lemmas.Bool.{cases_lt}
use Rattle.std.proofs.lemmas.List.{append_assoc, drop-drop, drop-set-add, drop-set-lt, drop-take, drop_at, get_or-drop, get_or-replicate, get_or-set_other, get_or-set_same, get_or-take, length-append, length-drop, length-replicate, length-set, length-take, length-take-le, take-set-le, take-take, take_at}
use Rattle.std.proofs.lemmas.Nat.{mul-add-lt}
use Rattle.document_store.specs.Slots.{ComesPastOver, IsColumn, Table, free_slot, is_over, slot_at, slots_of, without_slice, with_slot}
use Rattle.document_store.specs.declared.slots.Slot.{Slot}

-- where each slice has its slots, a column of the table has one
pub column_within : (table : Table) (slice at : ℕ) → IsColumn table slice at → length table.slots ≡ table.slices * table.columns →
    slice * table.columns + at < length table.slots
column_within table slice at in' every =
    let within = mul-add-lt slice table.columns at table.slices in'.slice_in_range in'.column_in_range in
    omega (arith, every, within)

-- and so has the slice
pub slice_within : (table : Table) (slice : ℕ) → slice < table.slices → length table.slots ≡ table.slices * table.columns →
    (slice + 1) * table.columns ≤ length table.slots
slice_within table slice in' every =
    let le : slice + 1 ≤ table.slices = omega arith in
    omega (arith, every, mul-le-mul_left table.columns le)

-- the changed column has the new slot
pub slot_at-with_slot : (table : Table) (slice at : ℕ) (slot : Slot) → IsColumn table slice at → length table.slots ≡ table.slices * table.columns →
    slot_at (with_slot table slice at slot) slice at ≡ slot
slot_at-with_slot table slice at slot in' every = get_or-set_same table.slots (slice * table.columns + at) slot free_slot (column_within table slice at in' every)

-- two columns of a slice, or of two, stand apart
pub apart : (n slice at other place : ℕ) → at < n → place < n → (slice ≡ other → at ≡ place → ⊥) → slice * n + at ≢ other * n + place
apart n slice at other place low high differ same =
    ⊎_elim
    (λ (less : slice < other). let le = mul-le-mul_left n (let l : slice + 1 ≤ other = omega arith in l) in omega (arith, le))
    (λ (least : other ≤ slice).
    ⊎_elim
    (λ (less : other < slice). let le = mul-le-mul_left n (let l : other + 1 ≤ slice = omega arith in l) in omega (arith, le))
    (λ (most : slice ≤ other). let is : slice ≡ other = omega arith in differ is (omega (arith, ap (λ s. s * n) is)))
    (cases_lt other slice))
    (cases_lt slice other)

-- any other column keeps its slot
pub slot_at-with_slot_other : (table : Table) (slice at other place : ℕ) (slot : Slot) → at < table.columns → place < table.columns →
    (slice ≡ other → at ≡ place → ⊥) →
    slot_at (with_slot table slice at slot) other place ≡ slot_at table other place
slot_at-with_slot_other table slice at other place slot low high differ =
    get_or-set_other table.slots (slice * table.columns + at) (other * table.columns + place) slot free_slot
    (λ same. apart table.columns slice at other place low high differ (sym same))

-- the slot of a column is that of its slice
pub slot_at-slots_of : (table : Table) (slice at : ℕ) → at < table.columns → slot_at table slice at ≡ get_or (slots_of table slice) at free_slot
slot_at-slots_of table slice at low =
    sym (get_or-take table.columns (drop (slice * table.columns) table.slots) at free_slot low ∙ get_or-drop (slice * table.columns) table.slots at free_slot)

-- where one comes past the first slots of a slice, their columns are over
pub column_is_over : (table : Table) (slice first at : ℕ) → ComesPastOver (slots_of table slice) 0 first → IsColumn table slice at → at < first → is_over (slot_at table slice at) ≡ true
column_is_over table slice first at is in' below = ap is_over (slot_at-slots_of table slice at in'.column_in_range) ∙ is.over at (omega arith) below

-- a slice has as many slots as columns
pub length-slots_of : (table : Table) (slice : ℕ) → slice < table.slices → length table.slots ≡ table.slices * table.columns →
    length (slots_of table slice) ≡ table.columns
length-slots_of table slice in' every =
    let within = slice_within table slice in' every in
    omega (arith, length-take table.columns (drop (slice * table.columns) table.slots), length-drop (slice * table.columns) table.slots)

-- a change of a column changes no count of slots
pub length-with_slot : (table : Table) (slice at : ℕ) (slot : Slot) → length (with_slot table slice at slot).slots ≡ length table.slots
length-with_slot table slice at slot = length-set table.slots (slice * table.columns + at) slot

-- nor does a slice whose slots are taken out
pub length-without_slice : (table : Table) (slice : ℕ) → slice < table.slices → length table.slots ≡ table.slices * table.columns →
    length (without_slice table slice).slots ≡ length table.slots
length-without_slice table slice in' every =
    let within = slice_within table slice in' every in
    let start = slice * table.columns in
    let rest = drop ((slice + 1) * table.columns) table.slots in
    omega (
      arith,
      length-append (take start table.slots) (replicate table.columns free_slot ++ rest),
      length-append (replicate table.columns free_slot) rest,
      length-replicate table.columns free_slot,
      length-take start table.slots,
      length-drop ((slice + 1) * table.columns) table.slots,
    )

-- the slots of the changed column's slice
pub slots_of-with_slot : (table : Table) (slice at : ℕ) (slot : Slot) → at < table.columns →
    slots_of (with_slot table slice at slot) slice ≡ set (slots_of table slice) at slot
slots_of-with_slot table slice at slot low =
    ap (take table.columns) (drop-set-add (slice * table.columns) table.slots at slot)
    ∙ take-set-lt table.columns (drop (slice * table.columns) table.slots) at slot low

-- slots that agree before a slice agree in each slice before it
same_before : (xs ys : List Slot) (n slice other : ℕ) → take (slice * n) xs ≡ take (slice * n) ys → other < slice →
    take n (drop (other * n) xs) ≡ take n (drop (other * n) ys)
same_before xs ys n slice other same less =
    let within : other * n + n ≤ slice * n = let le = mul-le-mul_left n (let l : other + 1 ≤ slice = omega arith in l) in omega (arith, le) in
    sym (drop-take (other * n) n xs)
    ∙ ap (drop (other * n)) (sym (take-take (other * n + n) (slice * n) xs within) ∙ ap (take (other * n + n)) same ∙ take-take (other * n + n) (slice * n) ys within)
    ∙ drop-take (other * n) n ys

-- slots that agree after a slice agree in each slice after it
same_after : (xs ys : List Slot) (n slice other : ℕ) → drop ((slice + 1) * n) xs ≡ drop ((slice + 1) * n) ys → slice < other →
    take n (drop (other * n) xs) ≡ take n (drop (other * n) ys)
same_after xs ys n slice other same less =
    let start = (slice + 1) * n in
    let more : start + (other * n - start) ≡ other * n = let le = mul-le-mul_left n (let l : slice + 1 ≤ other = omega arith in l) in omega (arith, le) in
    ap (take n)
    (ap (λ k. drop k xs) (sym more)
    ∙ sym (drop-drop (other * n - start) start xs)
    ∙ ap (drop (other * n - start)) same
    ∙ drop-drop (other * n - start) start ys
    ∙ ap (λ k. drop k ys) more)

-- the slots of any other slice stay
same_slice : (xs ys : List Slot) (n slice other : ℕ) → take (slice * n) xs ≡ take (slice * n) ys →
    drop ((slice + 1) * n) xs ≡ drop ((slice + 1) * n) ys → other ≢ slice →
    take n (drop (other * n) xs) ≡ take n (drop (other * n) ys)
same_slice xs ys n slice other before after differ =
    ⊎_elim (λ (less : other < slice). same_before xs ys n slice other before less)
    (λ (least : slice ≤ other). same_after xs ys n slice other after (omega arith))
    (cases_lt other slice)

pub slots_of-with_slot_other : (table : Table) (slice at other : ℕ) (slot : Slot) → at < table.columns → other ≢ slice →
    slots_of (with_slot table slice at slot) other ≡ slots_of table other
slots_of-with_slot_other table slice at other slot low differ =
    same_slice (set table.slots (slice * table.columns + at) slot) table.slots table.columns slice other
    (take-set-le (slice * table.columns) table.slots (slice * table.columns + at) slot (omega arith))
    (drop-set-lt ((slice + 1) * table.columns) table.slots (slice * table.columns + at) slot (omega arith))
    differ

-- the slots of a slice from which they were taken out
pub slots_of-without_slice : (table : Table) (slice : ℕ) → slice < table.slices → length table.slots ≡ table.slices * table.columns →
    slots_of (without_slice table slice) slice ≡ replicate table.columns free_slot
slots_of-without_slice table slice in' every =
    let within = slice_within table slice in' every in
    let start = slice * table.columns in
    let rest = drop ((slice + 1) * table.columns) table.slots in
    ap (take table.columns) (drop_at (take start table.slots) (replicate table.columns free_slot ++ rest) start (length-take-le start table.slots (omega arith)))
    ∙ take_at (replicate table.columns free_slot) rest table.columns (length-replicate table.columns free_slot)

-- any other slice keeps its slots
pub slots_of-without_slice_other : (table : Table) (slice other : ℕ) → slice < table.slices → length table.slots ≡ table.slices * table.columns →
    other ≢ slice → slots_of (without_slice table slice) other ≡ slots_of table other
slots_of-without_slice_other table slice other in' every differ =
    let within = slice_within table slice in' every in
    let start = slice * table.columns in
    let end = (slice + 1) * table.columns in
    let free = replicate table.columns free_slot in
    let front = take start table.slots in
    let rest = drop end table.slots in
    same_slice (front ++ (free ++ rest)) table.slots table.columns slice other
    (take_at front (free ++ rest) start (length-take-le start table.slots (omega arith)))
    (ap (drop end) (sym (append_assoc front free rest))
    ∙ drop_at (front ++ free) rest end (omega (arith, length-append front free, length-take-le start table.slots (omega arith), length-replicate table.columns free_slot)))
    differ

-- each column of a slice whose slots were taken out is free
pub slot_at-without_slice : (table : Table) (slice at : ℕ) → IsColumn table slice at → length table.slots ≡ table.slices * table.columns →
    slot_at (without_slice table slice) slice at ≡ free_slot
slot_at-without_slice table slice at in' every =
    slot_at-slots_of (without_slice table slice) slice at in'.column_in_range
    ∙ ap (λ slots. get_or slots at free_slot) (slots_of-without_slice table slice in'.slice_in_range every)
    ∙ get_or-replicate table.columns at free_slot free_slot in'.column_in_range

-- each column of another slice keeps its slot
pub slot_at-without_slice_other : (table : Table) (slice other at : ℕ) → slice < table.slices → at < table.columns →
    length table.slots ≡ table.slices * table.columns → other ≢ slice →
    slot_at (without_slice table slice) other at ≡ slot_at table other at
slot_at-without_slice_other table slice other at in' low every differ =
    slot_at-slots_of (without_slice table slice) other at low
    ∙ ap (λ slots. get_or slots at free_slot) (slots_of-without_slice_other table slice other in' every differ)
    ∙ sym (slot_at-slots_of table other at low)
