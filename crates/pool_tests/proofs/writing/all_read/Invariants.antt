use Rattle.std.proofs.Common.{ℕ}
use Rattle.pool_tests.proofs.writing.all_read.Given as goal

-- what could be read at first can still be
abbrev pub invariant-loop-bit : goal.invariant-loop-bit
invariant-loop-bit g l = (word : ℕ) → g.R.Rows.reach l.fn.rows word → g.R.Rows.reach l.rows word
