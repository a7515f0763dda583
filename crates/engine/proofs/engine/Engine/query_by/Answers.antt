use Rattle.engine.specs.Passes.{view_of}
use Rattle.engine.specs.Searches.{MakesQuery, QueryTurns}
use Rattle.commit_desk.specs.Passes.{IsResting}
use Rattle.slice_rule.specs.Pools.{PoolId}
use Rattle.std.proofs.Common.{subst, sym, arith}
use Rattle.engine.proofs.engine.Engine.query_by.Goals as goal

pub query-answer-requires-clause-rests : goal.query-answer-requires-clause-rests
query-answer-requires-clause-rests g c = subst (λ (p : PoolId). IsResting p c.pass.inside.seat) (sym c.self.invariant) c.pass.invariant.between.rests

pub returns-clause-call : goal.returns-clause-call
returns-clause-call g c =
    rw (← c.pass.view_is)
    (subst (λ (p : PoolId). MakesQuery p.limits c.args.text.now c.query-answer.result (view_of c.pass.inside.seat) (view_of c.query-answer.new.pass)) c.self.invariant c.query-answer.ensures.call)

pub returns-clause-turns : goal.returns-clause-turns
returns-clause-turns g c =
    rw (← c.pass.view_is)
    (subst (λ (p : PoolId). QueryTurns p.limits c.pass.inside.seat.number c.args.text.now c.pass.inside.seat.front c.query-answer.new.pass.front c.query-answer.result) c.self.invariant c.query-answer.ensures.turns)

pub invariant_of-pass : goal.invariant_of-pass
invariant_of-pass g c =
    let had = c.pass.invariant.between.room in
    let kept = c.query-answer.ensures.room in
    record {
      between = record {
        rests = subst (λ (p : PoolId). IsResting p c.query-answer.new.pass) c.self.invariant c.query-answer.ensures.rests;
        none = c.query-answer.ensures.none;
        room = omega (arith, had, kept);
      };
      dropped = c.free_some.ensures;
    }
