use Rattle.std.proofs.Common.{subst}
use Rattle.slice_recycler.specs.Recycles.{AnswersRecycle}
use Rattle.slice_rule.specs.Pools.{PoolId}
use Rattle.engine.proofs.Sizes.{is_room_of}
use Rattle.engine.proofs.engine_pool.EnginePool.recycle.Goals as goal

pub recycle_by-requires-clause-room : goal.recycle_by-requires-clause-room
recycle_by-requires-clause-room g c = is_room_of c.self.inside.pool c.self.inside.room c.self.invariant.of_config c.self.invariant.room_is

pub returns : goal.returns
returns g c = subst (λ (p : PoolId). AnswersRecycle p c.args.pass.now c.recycle_by.new.seat c.recycle_by.result) c.self.view_is c.recycle_by.ensures
