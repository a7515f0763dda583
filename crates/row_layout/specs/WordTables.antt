-- The table that finds a listed word by its hash.
use Rattle.std.specs.Prelude.{◌≡◌, ℕ, ◌+◌, ◌*◌, ◌/◌, ◌^◌, ◌<◌, ◌≤◌, List, length, slice_index_or, bit_and}
use Rattle.term_hash.specs.Hash.{fnv_1a, mixed}
use Rattle.row_layout.specs.declared.word_table.Slot.{Slot}
use Rattle.row_layout.specs.declared.word_table.WordTable.{WordTable}

-- the hash by which a word is found
abbrev pub spread_of : List ℕ → ℕ
spread_of word = mixed (fnv_1a word)

-- the slot from which a word with this hash is looked for
abbrev pub home_of : ℕ → ℕ → ℕ
home_of mask spread = bit_and spread mask

-- what a slot keeps of a hash
abbrev pub tag_of : ℕ → ℕ
tag_of spread = spread / 2 ^ 49 + 1

-- the slot with this number; behind the last one all are free
abbrev pub slot_at : List Slot → ℕ → Slot
slot_at slots at = slice_index_or slots at (record { tag = 0; index = 0 })

-- the slots from the first number on, up to the second, are taken
pub record AreTaken (slots : List Slot) (from to : ℕ) : Type 0 where
  pub each : (k : ℕ) → from ≤ k → k < to → 1 ≤ (slot_at slots k).tag

-- some slot from this number on is free
pub record HasFreeSlot (slots : List Slot) (from : ℕ) : Type 0 where
  pub free : ℕ
  pub after : from ≤ free
  pub within : free < length slots
  pub is_free : (slot_at slots free).tag ≡ 0

-- the first one that is
pub record IsFirstFree (slots : List Slot) (from at : ℕ) : Type 0 where
  pub after : from ≤ at
  pub within : at < length slots
  pub is_free : (slot_at slots at).tag ≡ 0
  pub taken : AreTaken slots from at

-- whoever goes from its home on comes to the slot of the word with this hash and this index, before any that is free
pub record StandsAt (mask : ℕ) (slots : List Slot) (spread index at : ℕ) : Type 0 where
  pub after : home_of mask spread ≤ at
  pub within : at < length slots
  pub slot : slot_at slots at ≡ record { tag = tag_of spread; index = index }
  pub taken : AreTaken slots (home_of mask spread) at

-- the first so many words stand in the slots, no other does, and behind the homes so many slots more are in use at most
pub record HoldsFirst (words : List (List ℕ × ℕ)) (count mask : ℕ) (slots : List Slot) : Type 0 where
  pub each : (i : ℕ) (d : List ℕ × ℕ) → i < count → (at : ℕ) × StandsAt mask slots (spread_of (slice_index_or words i d).0) i at
  pub no_other : (k : ℕ) → 1 ≤ (slot_at slots k).tag → (slot_at slots k).index < count
  pub rest_free : (k : ℕ) → mask + count ≤ k → (slot_at slots k).tag ≡ 0
  pub long : length slots ≡ mask + length words

-- the table holds all words
abbrev pub IsWordTable : List (List ℕ × ℕ) → WordTable → Type 0
IsWordTable words table = HoldsFirst words (length words) table.mask table.slots.items

-- there are at least twice as many homes as words, so that a walk from a home is short
abbrev pub HasHomesFor : List (List ℕ × ℕ) → WordTable → Type 0
HasHomesFor words table = 2 * length words ≤ table.mask + 1

-- the word stands at this place of the list
pub record IsListedAt (words : List (List ℕ × ℕ)) (word : List ℕ) (i : ℕ) : Type 0 where
  pub within : i < length words
  pub is : (d : List ℕ × ℕ) → (slice_index_or words i d).0 ≡ word
