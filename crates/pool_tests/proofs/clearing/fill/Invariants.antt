use Rattle.std.proofs.Common.{◌≡◌, []}
use Rattle.pool_tests.specs.Cleared.{AreAt, drops}
use Rattle.pool_tests.proofs.clearing.fill.Given as goal

-- so many columns after the first are dropped
abbrev pub invariant-loop-k : goal.invariant-loop-k
invariant-loop-k l = record {
  at : AreAt l.pool 1 (drops l.k) l.home l.seat;
  own : l.seat.own ≡ [];
}
