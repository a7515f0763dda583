-- What contracts see of an engine of one owner.
use Rattle.std.specs.Prelude.{◌≡◌, List}
use Rattle.commit_desk.specs.declared.find_layouts.FindLayouts.{FindLayouts}
use Rattle.engine.specs.Passes.{IsBetweenCalls, PassView}
use Rattle.funnel_model.specs.declared.config.Config.{Config}
use Rattle.funnel_model.specs.declared.event.Event.{Event}
use Rattle.slice_rule.specs.Pools.{PoolId}
use Rattle.slice_rule.specs.Seats.{PassState}

-- its pool, which has one pass, and the history, all of which this pass has seen
pub record SoloState : Type 0 where
  pub pool : PoolId
  pub history : List Event

-- its pass, which makes all calls
abbrev pub sole_pass : SoloState → PassView
sole_pass solo = record { number = 0; front = solo.history }

-- the pool has one pass, which is between two calls, and the desk is the pool's
pub record IsSolo (pool desk : PoolId) (seat : PassState) (layouts : FindLayouts) : Type 0 where
  pub one_pass : pool.limits.passes ≡ 1
  pub at : desk ≡ pool
  pub between : IsBetweenCalls pool seat layouts
  pub number : seat.number ≡ 0

-- the configuration, but that it has one pass
abbrev pub with_one_pass : Config → Config
with_one_pass config = record config { passes = 1 }
