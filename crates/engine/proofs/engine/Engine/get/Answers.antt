use Rattle.engine.specs.Passes.{MakesCall, view_of}
use Rattle.engine.specs.Gets.{GetTurn}
use Rattle.commit_desk.specs.Passes.{IsResting}
use Rattle.slice_rule.specs.Pools.{PoolId}
use Rattle.std.proofs.Common.{subst, sym}
use Rattle.engine.specs.Replies.{reply_of_get}
use Rattle.funnel_model.specs.declared.call.Call.TheVariants as call
use Rattle.engine.proofs.engine.Engine.get.Goals as goal

pub get-requires-clause-rests : goal.get-requires-clause-rests
get-requires-clause-rests g c = subst (λ (p : PoolId). IsResting p c.pass.inside.seat) (sym c.self.invariant) c.pass.invariant.between.rests

pub returns-clause-call : goal.returns-clause-call
returns-clause-call g c =
    rw (← c.pass.view_is)
    (subst (λ (p : PoolId). MakesCall p.limits (call.Get c.args.id) (reply_of_get c.get.result) (view_of c.pass.inside.seat) (view_of c.get.new.pass)) c.self.invariant c.get.ensures.call)

pub returns-clause-turn : goal.returns-clause-turn
returns-clause-turn g c =
    rw (← c.pass.view_is)
    (subst (λ (p : PoolId). GetTurn p.limits c.pass.inside.seat.number c.args.id c.pass.inside.seat.front c.get.new.pass.front c.get.result) c.self.invariant c.get.ensures.turn)

pub invariant_of-pass : goal.invariant_of-pass
invariant_of-pass g c = record {
  between = record {
    rests = subst (λ (p : PoolId). IsResting p c.get.new.pass) c.self.invariant c.get.ensures.rests;
    none = c.pass.invariant.between.none;
    room = c.pass.invariant.between.room;
  };
  dropped = c.pass.invariant.dropped;
}
