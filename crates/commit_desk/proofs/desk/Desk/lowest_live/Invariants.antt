use Rattle.std.proofs.Common.{ℕ, ◌<◌}
use Rattle.funnel_model.specs.History.{Document}
use Rattle.funnel_model.specs.Slices.{IsInState, Live}
use Rattle.commit_desk.proofs.desk.Desk.lowest_live.Given as goal

-- no lower column is live
abbrev pub invariant-loop-column : goal.invariant-loop-column
invariant-loop-column l = (lower : ℕ) (document : Document) (since : ℕ) → lower < l.column → IsInState l.self.history l.fn.slice lower (Live document since) → ⊥
