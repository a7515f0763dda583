use Rattle.std.proofs.Common.{ℕ, ◌<◌}
use Rattle.funnel_model.specs.History.{Document}
use Rattle.commit_desk.specs.Moving.{IsFreeToMove}
use Rattle.commit_desk.proofs.desk.Desk.lowest_free.Given as goal

-- no lower column can be moved
abbrev pub invariant-loop-column : goal.invariant-loop-column
invariant-loop-column l = (lower : ℕ) (document : Document) (since : ℕ) → lower < l.column → IsFreeToMove l.self.pool.limits l.fn.looks l.self.history l.fn.slice lower document since → ⊥
