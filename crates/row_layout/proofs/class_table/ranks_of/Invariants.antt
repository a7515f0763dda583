-- the classes below this one have the ranks of their rows
use Rattle.std.proofs.Common.{◌≡◌, ℕ, ◌<◌, ◌≤◌, [], length, get_or}
use Rattle.funnel_model.specs.Treatment.{row_count_of_class}
use Rattle.row_layout.specs.Rows.{rank_in_class}
use Rattle.row_layout.proofs.class_table.ranks_of.Given as goal

abbrev pub invariant-loop-class : goal.invariant-loop-class
invariant-loop-class l = record {
  all : length l.ranks ≡ 16;
  ranks : (k j : ℕ) → k < l.class → j < row_count_of_class l.config.one_in l.config.snr k → get_or (get_or l.ranks k []) j 0 ≡ rank_in_class l.config k j;
  low : (k j : ℕ) → k < l.class → j < row_count_of_class l.config.one_in l.config.snr k → get_or (get_or l.ranks k []) j 0 ≤ l.config.max_rank;
}
