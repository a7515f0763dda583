use Rattle.engine.specs.Passes.{MakesCall, view_of}
use Rattle.engine.specs.Puts.{PutTurns}
use Rattle.commit_desk.specs.Passes.{IsResting}
use Rattle.slice_rule.specs.Pools.{PoolId}
use Rattle.std.proofs.Common.{subst, sym}
use Rattle.engine.specs.Replies.{reply_of_put}
use Rattle.funnel_model.specs.declared.call.Call.TheVariants as call
use Rattle.engine.proofs.engine.Engine.put_by.Goals as goal

pub put-answer-requires-clause-rests : goal.put-answer-requires-clause-rests
put-answer-requires-clause-rests g c = subst (λ (p : PoolId). IsResting p c.pass.inside.seat) (sym c.self.invariant) c.pass.invariant.between.rests

pub returns-clause-call : goal.returns-clause-call
returns-clause-call g c =
    rw (← c.pass.view_is)
    (subst (λ (p : PoolId). MakesCall p.limits (call.Put c.args.id c.args.text.now) (reply_of_put c.put-answer.result) (view_of c.pass.inside.seat) (view_of c.put-answer.new.pass)) c.self.invariant c.put-answer.ensures.call)

pub returns-clause-turns : goal.returns-clause-turns
returns-clause-turns g c =
    rw (← c.pass.view_is)
    (subst (λ (p : PoolId). PutTurns p.config p.limits c.pass.inside.seat.number c.args.id c.args.text.now c.pass.inside.seat.front c.put-answer.new.pass.front c.put-answer.result) c.self.invariant c.put-answer.ensures.turns)

pub invariant_of-pass : goal.invariant_of-pass
invariant_of-pass g c = record {
  between = record {
    rests = subst (λ (p : PoolId). IsResting p c.put-answer.new.pass) c.self.invariant c.put-answer.ensures.rests;
    none = c.pass.invariant.between.none;
    room = c.pass.invariant.between.room;
  };
  dropped = c.free_some.ensures;
}
