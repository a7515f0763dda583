-- the bits of the rows so far, which have room
use Rattle.std.proofs.Common.{◌≡◌, ◌+◌, ◌++◌, ℕ, List, map, vec_capacity, vec_len}
use Rattle.std.specs.List.{range_with_len}
use Rattle.term_hash.specs.Hash.{fnv_1a}
use Rattle.row_layout.specs.DocumentBits.{bit_from}
use Rattle.row_layout.specs.Rows.{hashed_row}
use Rattle.row_layout.proofs.layout.Layout.push_hashed_bits.Given as goal

abbrev pub invariant-loop-j : goal.invariant-loop-j
invariant-loop-j l = record {
  bits : (word : List ℕ) → l.hash ≡ fnv_1a word →
      l.bits.items ≡ l.fn.bits.items ++ map (bit_from l.places.first l.places.column) (map (hashed_row l.self.config word l.class) (range_with_len 0 l.j));
  many : vec_len l.bits ≡ vec_len l.fn.bits + l.j;
  capacity : vec_capacity l.bits ≡ vec_capacity l.fn.bits;
}
