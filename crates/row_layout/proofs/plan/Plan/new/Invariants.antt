use Rattle.std.proofs.Common.{◌≡◌, ◌<◌, ℕ, length, slice_index}
use Rattle.row_layout.specs.Orders.{rows_from_rank}
use Rattle.row_layout.proofs.plan.Plan.new.Given as goal

-- the rows from each rank before this one on are counted
abbrev pub invariant-loop-rank : goal.invariant-loop-rank
invariant-loop-rank l = record {
  many : length l.from_rank ≡ 8;
  counted : (rank : ℕ) → rank < l.rank-counter → slice_index l.from_rank rank ≡ length (rows_from_rank rank l.rows.items);
}
