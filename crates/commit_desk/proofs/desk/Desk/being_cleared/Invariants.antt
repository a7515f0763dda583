use Rattle.std.proofs.Common.{◌≡◌, ◌<◌, ℕ, true}
use Rattle.funnel_model.specs.Slices.{is_clearing}
use Rattle.commit_desk.proofs.desk.Desk.being_cleared.Given as goal

-- no lower slice is being cleared
abbrev pub invariant-loop-slice : goal.invariant-loop-slice
invariant-loop-slice l = (lower : ℕ) → lower < l.slice → is_clearing lower l.fn.self.history ≡ true → ⊥
