use Rattle.commit_desk.proofs.Emptying.{IsSourceBelow}
use Rattle.commit_desk.proofs.desk.Desk.source.Given as goal

-- the source among the lower slices
abbrev pub invariant-loop-slice : goal.invariant-loop-slice
invariant-loop-slice l = IsSourceBelow l.self.pool.limits l.self.history l.slice l.source
