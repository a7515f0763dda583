use Rattle.std.proofs.Common.{◌≡◌, ℕ, ◌+◌, ◌&&◌, true, List, take, drop}
use Rattle.std.specs.List.{All}
use Rattle.std.specs.declared.option.Option.TheVariants.{Some}
use Rattle.rank_matcher.specs.Reads.{shown_reads}
use Rattle.rank_matcher.specs.Walk.{all_have, bit_in, reads_left}
use Rattle.rank_matcher.proofs.walk.intersect.Given as goal
use Rattle.row_read.specs.Bits.{has_bit}
use Rattle.row_read.specs.Readable.{StaysReadable}

-- the bits that the rows so far leave
abbrev pub invariant-loop-row : goal.invariant-loop-row
invariant-loop-row g l = record {
  told :
      (words : List ℕ) → g.R.Rows.told l.fn.rows ≡ Some words → (bit : ℕ)
      → has_bit l.left bit ≡ (has_bit l.running bit && all_have words l.place (take l.row-index l.planned) bit);
  least :
      (bit : ℕ) → has_bit l.running bit ≡ true → All (λ row. g.R.Rows.least l.fn.rows (bit_in l.place bit row)) (take l.row-index l.planned)
      → has_bit l.left bit ≡ true;
  running : (bit : ℕ) → has_bit l.left bit ≡ true → has_bit l.running bit ≡ true;
  seen :
      (bit : ℕ) → has_bit l.left bit ≡ true
      → All (λ row. g.R.Rows.seen l.rows (bit_in l.place bit row)) (take l.row-index l.planned);
  reads : shown_reads (g.R.Rows.reads l.rows) ≡ shown_reads (g.R.Rows.reads l.fn.rows + l.row-index);
  reads_are :
      (words : List ℕ) → g.R.Rows.told l.fn.rows ≡ Some words
      → reads_left words l.place l.running l.planned ≡ l.row-index + reads_left words l.place l.left (drop l.row-index l.planned);
  stays : StaysReadable g.R.Rows.reach g.R.Rows.least g.R.Rows.seen g.R.Rows.told g.R.Rows.kept l.fn.rows l.rows;
}
