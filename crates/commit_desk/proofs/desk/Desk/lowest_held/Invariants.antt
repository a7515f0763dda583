use Rattle.std.proofs.Common.{ℕ, ◌<◌}
use Rattle.funnel_model.specs.Blocks.{IsHeld}
use Rattle.funnel_model.specs.Slices.{ColumnState, IsInState}
use Rattle.commit_desk.proofs.desk.Desk.lowest_held.Given as goal

-- no lower column is live or pending
abbrev pub invariant-loop-column : goal.invariant-loop-column
invariant-loop-column l = (lower : ℕ) → lower < l.column → (other : ColumnState) → IsInState l.self.history l.fn.slice lower other → IsHeld other → ⊥
