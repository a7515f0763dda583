-- Where a home and a pass of the tests stand between two calls.
use Rattle.std.specs.Prelude.{◌≡◌, None}
use Rattle.funnel_model.specs.Legal.{awaited}
use Rattle.slice_rule.specs.Pools.{PoolId}
use Rattle.slice_rule.specs.Seats.{HomeState, IsAtRest, PassState}

-- both are of the pool, no event is awaited, and the pass has no open call
pub record AreAtRest (pool : PoolId) (home : HomeState) (seat : PassState) : Type 0 where
  pub home_pool : home.pool ≡ pool
  pub none_awaited : awaited home.history ≡ None
  pub seat_pool : seat.pool ≡ pool
  pub rest : IsAtRest seat
