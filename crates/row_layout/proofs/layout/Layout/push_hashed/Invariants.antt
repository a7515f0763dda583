-- the rows of the word so far
use Rattle.std.proofs.Common.{◌≡◌, ◌++◌, ℕ, List, map}
use Rattle.std.specs.List.{All, range_with_len}
use Rattle.term_hash.specs.Hash.{fnv_1a}
use Rattle.row_layout.specs.Rows.{IsRowOf, hashed_row}
use Rattle.row_layout.proofs.layout.Layout.push_hashed.Given as goal

abbrev pub invariant-loop-j : goal.invariant-loop-j
invariant-loop-j l = record {
  rows : (word : List ℕ) → l.hash ≡ fnv_1a word → l.rows.items ≡ l.fn.rows.items ++ map (hashed_row l.self.config word l.class) (range_with_len 0 l.j);
  laid : All (IsRowOf l.self.config) l.rows.items;
}
