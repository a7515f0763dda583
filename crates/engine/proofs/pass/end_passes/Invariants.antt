use Rattle.std.proofs.Common.{◌≡◌, List, ◌++◌, length}
use Rattle.std.specs.List.{All}
use Rattle.engine.specs.Engines.{EndsIn}
use Rattle.engine.specs.Passes.{PassView}
use Rattle.engine.proofs.pass.end_passes.Given as goal

-- the passes that are done stood after those that are left
abbrev pub invariant-loop-pass : goal.invariant-loop-pass
invariant-loop-pass g l = record {
  pool : l.home.pool ≡ l.initial.home.pool;
  history : l.home.history ≡ l.initial.home.history;
  done : (ended : List PassView) × (l.initial.passes.items ≡ l.passes.items ++ ended) × All (EndsIn l.initial.home.history) ended;
}

abbrev pub decreases-loop-pass : goal.decreases-loop-pass
decreases-loop-pass g l = length l.passes.items
