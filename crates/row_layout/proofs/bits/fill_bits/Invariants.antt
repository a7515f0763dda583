use Rattle.std.proofs.Common.{◌≡◌, ◌-◌, ◌*◌, ◌≤◌, ◌++◌, flat_map, length, vec_capacity, vec_len}
use Rattle.row_layout.specs.DocumentBits.{bits_of_word}
use Rattle.row_layout.proofs.bits.fill_bits.Given as goal

-- the bits of the words so far, and room for those of the words that are left
abbrev pub invariant-loop-word : goal.invariant-loop-word
invariant-loop-word l = record {
  bits : l.bits-inside.bits.items ++ flat_map (bits_of_word l.layout.config l.first l.column) l.word-iterator ≡ flat_map (bits_of_word l.layout.config l.first l.column) l.words;
  room : 26 * length l.word-iterator ≤ vec_capacity l.bits-inside.bits - vec_len l.bits-inside.bits;
}
