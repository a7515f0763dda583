-- Bits of words as tests: `IsBitSet` of the Prelude says that a bit of a word is set, and `IsSetIn` of the model that one of the row words is.
use Rattle.std.specs.Prelude.{ℕ, ◌^◌, Bool, not, nat_eq, bit_and, List, slice_index}
use Rattle.funnel_model.specs.declared.bit_list.Bit.{Bit}

-- whether bit i of a word is set
abbrev pub has_bit : ℕ → ℕ → Bool
has_bit word i = not (nat_eq (bit_and word (2 ^ i)) 0)

-- whether a bit is set in the words
abbrev pub is_set : List ℕ → Bit → Bool
is_set words bit = has_bit (slice_index words bit.word) bit.bit
