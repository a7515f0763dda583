use Rattle.engine.specs.Passes.{MakesCall, view_of}
use Rattle.engine.specs.Adds.{AddTurns}
use Rattle.commit_desk.specs.Passes.{IsResting}
use Rattle.slice_rule.specs.Pools.{PoolId}
use Rattle.std.proofs.Common.{subst, sym}
use Rattle.engine.specs.Replies.{reply_of_add}
use Rattle.funnel_model.specs.declared.call.Call.TheVariants as call
use Rattle.engine.proofs.engine.Engine.add_by.Goals as goal

pub add-answer-requires-clause-rests : goal.add-answer-requires-clause-rests
add-answer-requires-clause-rests g c = subst (λ (p : PoolId). IsResting p c.pass.inside.seat) (sym c.self.invariant) c.pass.invariant.between.rests

pub returns-clause-call : goal.returns-clause-call
returns-clause-call g c =
    rw (← c.pass.view_is)
    (subst (λ (p : PoolId). MakesCall p.limits (call.Add c.args.id c.args.text.now) (reply_of_add c.add-answer.result) (view_of c.pass.inside.seat) (view_of c.add-answer.new.pass)) c.self.invariant c.add-answer.ensures.call)

pub returns-clause-turns : goal.returns-clause-turns
returns-clause-turns g c =
    rw (← c.pass.view_is)
    (subst (λ (p : PoolId). AddTurns p.config p.limits c.pass.inside.seat.number c.args.id c.args.text.now c.pass.inside.seat.front c.add-answer.new.pass.front c.add-answer.result) c.self.invariant c.add-answer.ensures.turns)

pub invariant_of-pass : goal.invariant_of-pass
invariant_of-pass g c = record {
  between = record {
    rests = subst (λ (p : PoolId). IsResting p c.add-answer.new.pass) c.self.invariant c.add-answer.ensures.rests;
    none = c.pass.invariant.between.none;
    room = c.pass.invariant.between.room;
  };
  dropped = c.free_some.ensures;
}
