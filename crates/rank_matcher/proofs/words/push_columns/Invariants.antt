use Rattle.std.proofs.Common.{ℕ, List}
use Rattle.rank_matcher.proofs.SetBits.{IsTaken}
use Rattle.rank_matcher.proofs.words.push_columns.Given as goal

-- the columns of the set bits that are no longer left
abbrev pub invariant-loop-left : goal.invariant-loop-left
invariant-loop-left l = (front : List ℕ) × IsTaken l.word l.left l.first l.slice l.fn.out l.out front

abbrev pub decreases-loop-left : goal.decreases-loop-left
decreases-loop-left l = l.left
