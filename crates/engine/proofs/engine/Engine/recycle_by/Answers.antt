use Rattle.std.proofs.Common.{subst}
use Rattle.slice_recycler.specs.Recycles.{RecycleTurns}
use Rattle.slice_rule.specs.Pools.{PoolId}
use Rattle.engine.proofs.engine.Engine.recycle_by.Goals as goal

pub returns-clause-turns : goal.returns-clause-turns
returns-clause-turns g c =
    let seat = c.pass.inside.seat in
    let next = c.recycle-recycled.new.pass in
    rw (← c.pass.view_is)
    (subst (λ (p : PoolId). RecycleTurns p.limits seat.number seat.front next.front c.recycle-recycled.result) c.self.invariant c.recycle-recycled.ensures.turns)
