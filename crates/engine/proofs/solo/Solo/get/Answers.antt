use Rattle.engine.specs.Passes.{MakesCall, PassView}
use Rattle.engine.specs.Gets.{GetTurn}
use Rattle.engine.proofs.Soles.{sole_call}
use Rattle.std.proofs.Common.{subst, ℕ, ◌∙◌}
use Rattle.engine.specs.Replies.{reply_of_get}
use Rattle.funnel_model.specs.declared.call.Call.TheVariants as call
use Rattle.engine.proofs.solo.Solo.get.Goals as goal

pub returns-clause-call : goal.returns-clause-call
returns-clause-call c =
    rw (← c.self.view_is)
    (sole_call (λ (before after : PassView). MakesCall c.self.inside.pool.limits (call.Get c.args.id) (reply_of_get c.get.result) before after) c.self.inside.seat c.get.new.pass c.self.invariant.number (c.get.ensures.call.number) c.get.ensures.call)

pub returns-clause-turn : goal.returns-clause-turn
returns-clause-turn c =
    rw (← c.self.view_is)
    (subst (λ (n : ℕ). GetTurn c.self.inside.pool.limits n c.args.id c.self.inside.seat.front c.get.new.pass.front c.get.result) c.self.invariant.number c.get.ensures.turn)

pub invariant_of-self : goal.invariant_of-self
invariant_of-self c = record {
  one_pass = c.self.invariant.one_pass;
  at = c.get.ensures.at;
  between = record { rests = c.get.ensures.rests; none = c.self.invariant.between.none; room = c.self.invariant.between.room };
  number = c.get.ensures.call.number ∙ c.self.invariant.number;
}
