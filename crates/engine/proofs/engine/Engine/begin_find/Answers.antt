use Rattle.std.proofs.Common.{subst}
use Rattle.engine.proofs.Finds.{begins_call, refused_step}
use Rattle.engine.specs.Finds.{FindBegins, RefusedTurns}
use Rattle.funnel_model.specs.Legal.{IsIdle, IsLegal}
use Rattle.slice_rule.specs.Pools.{PoolId}
use Rattle.engine.proofs.engine.Engine.begin_find.Goals as goal

pub returns-in-Ok-clause-begun : goal.returns-in-Ok-clause-begun
returns-in-Ok-clause-begun g c =
    let limits = g.N.PoolName.pool.limits in
    let seat = c.pass.inside.seat in
    let query = c.args.query.now in
    let next = c.begin_words.new.pass in
    let did = c.in-Ok.ensures in
    let turns = subst (λ (p : PoolId). FindBegins p.limits seat.number query seat.front next.front) c.self.invariant did.turns in
    let legal = subst (λ (p : PoolId). IsLegal p.limits next.front) c.self.invariant did.legal in
    rw (← c.pass.view_is)
    (record { call = begins_call limits seat.number query seat.front next.front turns; legal = legal; number = did.number })

pub returns-in-Err-clause-refused : goal.returns-in-Err-clause-refused
returns-in-Err-clause-refused g c =
    let limits = g.N.PoolName.pool.limits in
    let seat = c.pass.inside.seat in
    let query = c.args.query.now in
    let next = c.begin_words.new.pass in
    let did = c.in-Err.ensures in
    let turns = subst (λ (p : PoolId). RefusedTurns p.limits seat.number seat.front next.front c.in-Err.fault) c.self.invariant did.turns in
    let legal = subst (λ (p : PoolId). IsLegal p.limits next.front) c.self.invariant did.legal in
    rw (← c.pass.view_is)
    (record {
      step = refused_step limits seat.number query seat.front next.front c.pass.invariant.between.rests.idle legal (subst (λ n. IsIdle n next.front) did.number did.rests.idle) c.in-Err.fault turns;
      number = did.number;
    })
