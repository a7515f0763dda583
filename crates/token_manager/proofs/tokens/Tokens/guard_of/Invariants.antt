-- no pass so far has a token that was opened before
use Rattle.std.proofs.Common.{◌<◌, ℕ}
use Rattle.token_manager.specs.Guarding.{HasOpened}
use Rattle.token_manager.proofs.tokens.Tokens.guard_of.Given as goal

abbrev pub invariant-loop-pass : goal.invariant-loop-pass
invariant-loop-pass l = (lower other : ℕ) → lower < l.pass → HasOpened l.token-items lower other → other < l.retired_at → ⊥
