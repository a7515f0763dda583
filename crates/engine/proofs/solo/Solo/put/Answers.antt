use Rattle.engine.specs.Passes.{MakesCall, PassView}
use Rattle.engine.specs.Puts.{PutTurns}
use Rattle.engine.proofs.Soles.{sole_call}
use Rattle.std.proofs.Common.{subst, ℕ, ◌∙◌}
use Rattle.engine.specs.Replies.{reply_of_put}
use Rattle.funnel_model.specs.declared.call.Call.TheVariants as call
use Rattle.engine.proofs.solo.Solo.put.Goals as goal

pub returns-clause-call : goal.returns-clause-call
returns-clause-call c =
    rw (← c.self.view_is)
    (sole_call (λ (before after : PassView). MakesCall c.self.inside.pool.limits (call.Put c.args.id c.args.text.now) (reply_of_put c.put.result) before after) c.self.inside.seat c.put.new.pass c.self.invariant.number (c.put.ensures.call.number) c.put.ensures.call)

pub returns-clause-turns : goal.returns-clause-turns
returns-clause-turns c =
    rw (← c.self.view_is)
    (subst (λ (n : ℕ). PutTurns c.self.inside.pool.config c.self.inside.pool.limits n c.args.id c.args.text.now c.self.inside.seat.front c.put.new.pass.front c.put.result) c.self.invariant.number c.put.ensures.turns)

pub invariant_of-self : goal.invariant_of-self
invariant_of-self c = record {
  one_pass = c.self.invariant.one_pass;
  at = c.put.ensures.at;
  between = record { rests = c.put.ensures.rests; none = c.self.invariant.between.none; room = c.self.invariant.between.room };
  number = c.put.ensures.call.number ∙ c.self.invariant.number;
}
