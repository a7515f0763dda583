-- the rows before this one have their rank
use Rattle.std.proofs.Common.{◌≡◌, ℕ, ◌<◌, ◌≤◌, length, get_or}
use Rattle.funnel_model.specs.Treatment.{rank_of_row}
use Rattle.row_layout.proofs.class_table.ranks_in_class.Given as goal

abbrev pub invariant-loop-j : goal.invariant-loop-j
invariant-loop-j l = record {
  all : length l.ranks ≡ 26;
  ranks : (k : ℕ) → k < l.j → get_or l.ranks k 0 ≡ rank_of_row l.class l.count l.config.max_rank k;
  low : (k : ℕ) → k < l.j → get_or l.ranks k 0 ≤ l.config.max_rank;
}
