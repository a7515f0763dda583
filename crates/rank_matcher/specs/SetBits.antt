-- The bits of one word.
use Rattle.std.specs.Prelude.{ℕ, List, filter}
use Rattle.std.specs.List.{range_with_len}
use Rattle.row_read.specs.Bits.{has_bit}

-- the set bits of a word, in rising order
unfoldable pub set_bits : ℕ → List ℕ
set_bits word = filter (has_bit word) (range_with_len 0 64)
