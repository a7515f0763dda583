-- The bits that a document sets: one for each of its words and each row of that word, at the document's column.
use Rattle.std.specs.Prelude.{◌≡◌, ℕ, ◌+◌, ◌*◌, ◌/◌, ◌%◌, ◌^◌, ◌↔◌, List, [], ◌∷◌, Contains, map}
use Rattle.std.specs.List.Sorted.{IsStrictlySortedBy}
use Rattle.std.specs.Ordering.{match_ordering, nat_cmp, ordering_then}
use Rattle.std.specs.declared.cmp.Ordering.{Ordering}
use Rattle.funnel_model.specs.declared.bit_list.Bit.{Bit}
use Rattle.funnel_model.specs.declared.config.Config.{Config}
use Rattle.row_layout.specs.Rows.{rows_of_word, rows_of_words}
use Rattle.row_layout.specs.declared.row.Row.{Row}

-- the first word of a slice in the pool, where each slice has this many words
abbrev pub slice_start : ℕ → ℕ → ℕ
slice_start slice_words slice = slice * slice_words

-- the bit of a row at a column, in the slice that begins at this word of the pool: at rank r a bit stands for 2^r columns
abbrev pub bit_from : ℕ → ℕ → Row → Bit
bit_from first column row = record { word = first + row.start + column / (64 * 2 ^ row.rank); bit = column % 64 }

-- the bit of a row at a column of a slice, where each slice has this many words
abbrev pub bit_of_row : ℕ → ℕ → ℕ → Row → Bit
bit_of_row slice_words slice column row = bit_from (slice_start slice_words slice) column row

-- the bit is one that a document with these words sets at the column of the slice, where each slice has room for this many words
abbrev pub IsDocumentBitIn : ℕ → Config → List (List ℕ) → ℕ → ℕ → Bit → Type 0
IsDocumentBitIn room config words slice column bit =
    (row : Row) × Contains (rows_of_words config words) row × (bit ≡ bit_of_row room slice column row)

-- by word, and then by bit
abbrev pub bit_cmp : Bit → Bit → Ordering
bit_cmp a b = ordering_then (nat_cmp a.word b.word) (nat_cmp a.bit b.bit)

-- exactly the bits that a document with these words sets at the column of the slice, in rising order, each once, where each slice has
-- room for this many words
pub record AreDocumentBitsIn (room : ℕ) (config : Config) (words : List (List ℕ)) (slice column : ℕ) (bits : List Bit) : Type 0 where
  pub rising : IsStrictlySortedBy bit_cmp bits
  pub exactly : (bit : Bit) → Contains bits bit ↔ IsDocumentBitIn room config words slice column bit

-- bits in rising order with one more, in its place; one that is among them stays once
abbrev pub with_bit : List Bit → Bit → List Bit
with_bit [] bit = bit ∷ []
with_bit (first ∷ rest) bit = match_ordering (bit_cmp bit first) (bit ∷ first ∷ rest) (first ∷ rest) (first ∷ with_bit rest bit)

-- these bits in rising order, each once
unfoldable pub in_order : List Bit → List Bit
in_order [] = []
in_order (bit ∷ bits) = with_bit (in_order bits) bit

-- the bits of a word, row by row, at a column of the slice that begins at this word of the pool
abbrev pub bits_of_word : Config → ℕ → ℕ → List ℕ → List Bit
bits_of_word config first column word = map (bit_from first column) (rows_of_word config word)

-- What `Bits` is seen as: bits in rising order, each once, and for how many more there is room.
pub record BitsState : Type 0 where
  pub bits : List Bit
  pub room : ℕ
