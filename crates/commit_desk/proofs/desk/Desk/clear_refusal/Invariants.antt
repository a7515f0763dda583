use Rattle.std.proofs.Common.{ℕ, ◌<◌}
use Rattle.funnel_model.specs.Slices.{IsRetired}
use Rattle.commit_desk.proofs.desk.Desk.clear_refusal.Given as goal

-- no lower slice is retired
abbrev pub invariant-loop-slice : goal.invariant-loop-slice
invariant-loop-slice l = (lower : ℕ) → lower < l.slice → IsRetired l.self.pool.limits.columns lower l.self.history → ⊥
