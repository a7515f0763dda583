-- The hash of a term and the row that it names.
use Rattle.std.specs.Prelude.{ℕ, List, [], ◌∷◌, ◌++◌, ◌*◌, ◌/◌, ◌%◌, ◌^◌, bit_xor}
use Rattle.std.specs.List.{fold}

-- FNV-1a takes in one more byte: exclusive or with the byte, then times the FNV prime, in 64 bits
abbrev pub fnv_step : ℕ → ℕ → ℕ
fnv_step hash byte = (bit_xor hash byte * 0x100000001b3) % 2 ^ 64

-- FNV-1a of 64 bits: the bytes in turn, from the FNV offset basis on
abbrev pub fnv_1a : List ℕ → ℕ
fnv_1a bytes = fold fnv_step 0xcbf29ce484222325 bytes

-- the hash for row j of a word: FNV-1a of the word's bytes followed by the byte j
unfoldable pub hash_of : List ℕ → ℕ → ℕ
hash_of word j = fnv_1a (word ++ j ∷ [])

-- a hash with its high half mixed into its low half
abbrev pub mixed : ℕ → ℕ
mixed hash = bit_xor hash (hash / 2 ^ 32)

-- row j of a word, among so many rows
unfoldable pub row_number : List ℕ → ℕ → ℕ → ℕ
row_number word j rows = mixed (hash_of word j) % rows
