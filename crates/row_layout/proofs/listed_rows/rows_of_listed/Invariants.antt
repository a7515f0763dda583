use Rattle.std.proofs.Common.{◌≡◌, map, take}
use Rattle.treatment.proofs.Passes.{private_so_far}
use Rattle.row_layout.specs.Layouts.{word_rows}
use Rattle.row_layout.proofs.listed_rows.rows_of_listed.Given as goal

-- the words before this one have their rows
abbrev pub invariant-loop-count : goal.invariant-loop-count
invariant-loop-count l = record {
  private : l.private ≡ private_so_far l.config l.count-index;
  rows : l.rows.items ≡ map (λ entry. word_rows l.config entry.0) (take l.count-index l.config.words);
}
