use Rattle.engine.specs.Passes.{MakesCall, view_of}
use Rattle.engine.specs.Turns.{PlaceTurn}
use Rattle.commit_desk.specs.Passes.{IsResting}
use Rattle.slice_rule.specs.Pools.{PoolId}
use Rattle.std.proofs.Common.{subst, sym}
use Rattle.engine.specs.Replies.{reply_of_place}
use Rattle.funnel_model.specs.declared.call.Call.TheVariants as call
use Rattle.engine.proofs.engine.Engine.place.Goals as goal

pub place-requires-clause-rests : goal.place-requires-clause-rests
place-requires-clause-rests g c = subst (λ (p : PoolId). IsResting p c.pass.inside.seat) (sym c.self.invariant) c.pass.invariant.between.rests

pub returns-clause-call : goal.returns-clause-call
returns-clause-call g c =
    rw (← c.pass.view_is)
    (subst (λ (p : PoolId). MakesCall p.limits call.Place (reply_of_place c.place.result) (view_of c.pass.inside.seat) (view_of c.place.new.pass)) c.self.invariant c.place.ensures.call)

pub returns-clause-turn : goal.returns-clause-turn
returns-clause-turn g c =
    rw (← c.pass.view_is)
    (subst (λ (p : PoolId). PlaceTurn p.limits c.place.result (view_of c.pass.inside.seat) (view_of c.place.new.pass)) c.self.invariant c.place.ensures.turn)

pub invariant_of-pass : goal.invariant_of-pass
invariant_of-pass g c = record {
  between = record {
    rests = subst (λ (p : PoolId). IsResting p c.place.new.pass) c.self.invariant c.place.ensures.rests;
    none = c.pass.invariant.between.none;
    room = c.pass.invariant.between.room;
  };
  dropped = c.pass.invariant.dropped;
}
