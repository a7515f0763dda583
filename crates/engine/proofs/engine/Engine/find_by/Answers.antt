use Rattle.engine.specs.Passes.{MakesCall, view_of}
use Rattle.engine.specs.Finds.{FindTurns}
use Rattle.commit_desk.specs.Passes.{IsResting}
use Rattle.slice_rule.specs.Pools.{PoolId}
use Rattle.std.proofs.Common.{subst, sym, arith}
use Rattle.engine.specs.Replies.{reply_of_find}
use Rattle.funnel_model.specs.declared.call.Call.TheVariants as call
use Rattle.engine.proofs.engine.Engine.find_by.Goals as goal

pub find-answer-requires-clause-rests : goal.find-answer-requires-clause-rests
find-answer-requires-clause-rests g c = subst (λ (p : PoolId). IsResting p c.pass.inside.seat) (sym c.self.invariant) c.pass.invariant.between.rests

pub returns-clause-call : goal.returns-clause-call
returns-clause-call g c =
    rw (← c.pass.view_is)
    (subst (λ (p : PoolId). MakesCall p.limits (call.Find c.args.query.now) (reply_of_find c.find-answer.result) (view_of c.pass.inside.seat) (view_of c.find-answer.new.pass)) c.self.invariant c.find-answer.ensures.call)

pub returns-clause-turns : goal.returns-clause-turns
returns-clause-turns g c =
    rw (← c.pass.view_is)
    (subst (λ (p : PoolId). FindTurns p.limits c.pass.inside.seat.number c.args.query.now c.pass.inside.seat.front c.find-answer.new.pass.front c.find-answer.result) c.self.invariant c.find-answer.ensures.turns)

pub invariant_of-pass : goal.invariant_of-pass
invariant_of-pass g c =
    let had = c.pass.invariant.between.room in
    let kept = c.find-answer.ensures.room in
    record {
      between = record {
        rests = subst (λ (p : PoolId). IsResting p c.find-answer.new.pass) c.self.invariant c.find-answer.ensures.rests;
        none = c.find-answer.ensures.none;
        room = omega (arith, had, kept);
      };
      dropped = c.free_some.ensures;
    }
