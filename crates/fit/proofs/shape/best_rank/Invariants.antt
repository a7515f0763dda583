use Rattle.std.proofs.Common.{◌≤◌, ℕ}
use Rattle.fit.specs.Shapes.{Serves}
use Rattle.fit.proofs.shape.best_rank.Given as goal

-- no greater rank serves
abbrev pub invariant-loop-rank : goal.invariant-loop-rank
invariant-loop-rank l = record {
  in_range : l.rank ≤ 6;
  none_above : (other : ℕ) → other ≤ 6 → Serves l.documents other → other ≤ l.rank;
}

abbrev pub decreases-loop-rank : goal.decreases-loop-rank
decreases-loop-rank l = l.rank
