use Rattle.std.proofs.Common.{◌≡◌, ℕ, ◌+◌, ◌*◌, ◌<◌, ◌≤◌, true, take}
use Rattle.rank_matcher.specs.Evaluation.{HasReadRows, IsWithin}
use Rattle.rank_matcher.proofs.evaluation.read_atom.Given as goal
use Rattle.row_read.specs.Bits.{has_bit}
use Rattle.row_read.specs.Readable.{StaysReadable}

-- the columns that the rows so far leave
abbrev pub invariant-loop-row : goal.invariant-loop-row
invariant-loop-row g l = record {
  told :
      (bit : ℕ) → bit < 64 → has_bit l.mask bit ≡ true
      → HasReadRows (g.R.Rows.told l.fn.rows) (g.R.Rows.least l.fn.rows) (g.R.Rows.seen l.rows) l.place.first (64 * l.place.word + bit) (take l.row-index l.planned) (has_bit l.left bit);
  within : IsWithin l.left l.mask;
  reads : g.R.Rows.reads l.rows ≤ g.R.Rows.reads l.fn.rows + l.row-index;
  stays : StaysReadable g.R.Rows.reach g.R.Rows.least g.R.Rows.seen g.R.Rows.told g.R.Rows.kept l.fn.rows l.rows;
}
