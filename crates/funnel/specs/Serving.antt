-- Where the passes of a new engine stand after the first of them was used.
use Rattle.std.specs.Prelude.{◌≡◌, ℕ, ◌<◌, List, [], map, All, Contains}
use Rattle.std.specs.List.{range_with_len}
use Rattle.funnel_model.specs.declared.event.Event.{Event}
use Rattle.engine.specs.Passes.{PassView, new_pass}
use Rattle.slice_rule.specs.Pools.{PoolId}

-- so many passes of a new engine, from this number on
abbrev pub new_passes : ℕ → ℕ → List PassView
new_passes from count = map new_pass (range_with_len from count)

-- the first pass has seen this history, and each other one nothing
pub record FirstHasSeen (front : List Event) (pass : PassView) : Type 0 where
  pub first : pass.number ≡ 0 → pass.front ≡ front
  pub other : 0 < pass.number → pass.front ≡ []

-- only the first pass was used, and has seen this history; all passes are there
pub record OnlyFirstUsed (pool : PoolId) (front : List Event) (passes : List PassView) : Type 0 where
  pub seen : All (FirstHasSeen front) passes
  pub every : (pass : ℕ) → pass < pool.limits.passes → Contains (map (λ (pass : PassView). pass.number) passes) pass

-- the first pass did this from the empty front on, up to the front that it has now, and no other pass was used
pub record FirstDid (pool : PoolId) (passes : List PassView) (did : List Event → Type 0) : Type 0 where
  pub front : List Event
  pub done : did front
  pub used : OnlyFirstUsed pool front passes
