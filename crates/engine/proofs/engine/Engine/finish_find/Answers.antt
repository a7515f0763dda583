use Rattle.std.proofs.Common.{subst}
use Rattle.engine.proofs.Answered.{answers_words}
use Rattle.engine.proofs.Finds.{end_is_quiet}
use Rattle.funnel_model.specs.Legal.{IsLegal}
use Rattle.slice_recycler.proofs.Steps.{quiet_adds_none}
use Rattle.slice_rule.specs.Pools.{PoolId}
use Rattle.engine.proofs.engine.Engine.finish_find.Goals as goal

pub returns-clause-pass : goal.returns-clause-pass
returns-clause-pass g c =
    let seat = c.find.inside.seat in
    let next = c.finish-answer.new.pass in
    let did = c.finish-answer.ensures in
    rw (← c.find.view_is)
    (record {
      calls = quiet_adds_none seat.number 0 seat.front next.front (end_is_quiet seat.number seat.front next.front did.ended);
      legal = subst (λ (p : PoolId). IsLegal p.limits next.front) c.self.invariant did.legal;
      number = did.number;
    })

pub returns-clause-found : goal.returns-clause-found
returns-clause-found g c =
    let find = c.find.inside in
    rw (← c.find.view_is)
    (answers_words g.N.PoolName.pool find.seat find.begun.token find.begun.search find.layouts.entries.items c.find.invariant.0 c.finish-answer.result c.finish-answer.ensures.found)
