-- How far the gates and the passes of a serve went to its workers, and came back.
use Rattle.std.proofs.Common.{◌≡◌, ◌+◌, ◌-◌, List, ◌++◌, length, map}
use Rattle.engine.specs.Passes.{PassView}
use Rattle.funnel_server.specs.Gates.{GateState}
use Rattle.funnel_server.specs.Workers.{WorkerState}
use Rattle.slice_rule.specs.Pools.{PoolId}
use Rattle.command_line.specs.declared.command.ServeCommand.{ServeCommand}
use Rattle.funnel.specs.ServeRuns.{new_workers}
use Rattle.funnel.specs.Serving.{new_passes}
use Rattle.funnel.specs.Workers.{pass_of_worker}

-- some of the gates and passes of a new engine have a worker, the first ones of each, and these are left
pub record AreEquipped (pool : PoolId) (serve : ServeCommand) (all left : List GateState) (passes : List PassView) (workers : List WorkerState) : Type 0 where
  pub made : workers ++ new_workers pool.config pool.limits serve (length workers) left ≡ new_workers pool.config pool.limits serve 0 all
  pub count : length workers + length left ≡ length all
  pub passes_left : passes ≡ new_passes (length workers) (pool.config.passes - length workers)

-- some of the workers gave their gates and passes back, the first ones, and these are left
pub record GaveBack (workers left : List WorkerState) (before after : List GateState) (others passes : List PassView) : Type 0 where
  pub done : List WorkerState
  pub parts : workers ≡ done ++ left
  pub gates : after ≡ before ++ map (λ worker. worker.gate) done
  pub back : passes ≡ others ++ map pass_of_worker done
