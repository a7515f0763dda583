use Rattle.std.proofs.Common.{◌≡◌, ◌++◌, map}
use Rattle.std.specs.List.{All}
use Rattle.std.specs.Vec.Iter.{into_iter_items}
use Rattle.commit_desk.specs.Passes.{IsResting}
use Rattle.engine.specs.Passes.{view_of}
use Rattle.engine.proofs.pass.name_passes.Given as goal

-- the passes so far have the first of the seats, and those that are left rest
abbrev pub invariant-loop-seat : goal.invariant-loop-seat
invariant-loop-seat g l = record {
  named : map view_of l.fn.seats.items ≡ l.passes.items ++ map view_of (into_iter_items l.seat-iterator);
  rest : All (IsResting g.N.PoolName.pool) (into_iter_items l.seat-iterator);
}
