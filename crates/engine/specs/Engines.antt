-- What contracts see of an engine before it is open, while it is, and when it is closed.
use Rattle.std.specs.Prelude.{◌≡◌, ℕ, List, [], length, map}
use Rattle.std.specs.List.{range_with_len}
use Rattle.funnel_model.specs.Configuration.{IsValid}
use Rattle.funnel_model.specs.declared.commit.Commit.{Commit}
use Rattle.funnel_model.specs.declared.config.Config.{Config}
use Rattle.funnel_model.specs.declared.event.Event.{Event}
use Rattle.funnel_model.specs.History.{IsFrontOf, commits_after, own}
use Rattle.funnel_model.specs.Sizes.{words_of_slice}
use Rattle.engine.specs.Passes.{PassView}
use Rattle.slice_rule.specs.Pools.{PoolId, limits_of}
use Rattle.slice_rule.specs.Seats.{HomeState, PassState, new_home_state, new_pass_state}

-- the pool is of a valid configuration, and has its sizes
pub record IsOfConfig (pool : PoolId) : Type 0 where
  pub valid : IsValid pool.config
  pub limits : pool.limits ≡ limits_of pool.config (words_of_slice pool.config)

-- an engine that isn't open yet: its home and its passes are those of a new pool
pub record IsBlank (pool : PoolId) (home : HomeState) (passes : List PassState) : Type 0 where
  pub of_config : IsOfConfig pool
  pub new_home : home ≡ new_home_state pool
  pub new_passes : passes ≡ map (new_pass_state pool) (range_with_len 0 pool.config.passes)

-- what an engine keeps of its pool has the row words of a slice, the slices and the reserve of the pool's configuration; it keeps that
-- configuration, but for its listed words
pub record IsEnginePool (pool : PoolId) (room slices reserve : ℕ) (base : Config) : Type 0 where
  pub of_config : IsOfConfig pool
  pub room_is : room ≡ pool.limits.slice_words
  pub count : slices ≡ pool.config.slices
  pub kept_free : reserve ≡ pool.config.reserve
  pub based : base ≡ record pool.config { words = [] }

-- an engine that is closed: how many commits of its history come before those that its journal keeps, these, the number of its
-- events, and the history
pub record ClosedState : Type 0 where
  pub base : ℕ
  pub commits : List Commit
  pub events : ℕ
  pub history : List Event

-- its commits are the last ones of its history, and the number of its events is that of its history
pub record IsClosed (closed : ClosedState) : Type 0 where
  pub commits : closed.commits ≡ commits_after closed.history closed.base
  pub events : closed.events ≡ length closed.history

-- the history goes on from what the pass had seen, without a further event of the pass
abbrev pub EndsIn : List Event → PassView → Type 0
EndsIn history pass = IsFrontOf pass.number pass.front history

-- so it has each call of the pass once, and no other call of it
abbrev pub HasItsCalls : List Event → PassView → Type 0
HasItsCalls history pass = own pass.number history ≡ own pass.number pass.front
