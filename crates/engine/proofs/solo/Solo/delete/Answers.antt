use Rattle.engine.specs.Passes.{MakesCall, PassView}
use Rattle.engine.specs.Turns.{DeleteTurn}
use Rattle.engine.proofs.Soles.{sole_call}
use Rattle.std.proofs.Common.{◌∙◌}
use Rattle.engine.specs.Replies.{reply_of_delete}
use Rattle.funnel_model.specs.declared.call.Call.TheVariants as call
use Rattle.engine.proofs.solo.Solo.delete.Goals as goal

pub returns-clause-call : goal.returns-clause-call
returns-clause-call c =
    rw (← c.self.view_is)
    (sole_call (λ (before after : PassView). MakesCall c.self.inside.pool.limits (call.Delete c.args.id) (reply_of_delete c.delete.result) before after) c.self.inside.seat c.delete.new.pass c.self.invariant.number (c.delete.ensures.call.number) c.delete.ensures.call)

pub returns-clause-turn : goal.returns-clause-turn
returns-clause-turn c =
    rw (← c.self.view_is)
    (sole_call (λ (before after : PassView). DeleteTurn c.self.inside.pool.limits c.args.id c.delete.result before after) c.self.inside.seat c.delete.new.pass c.self.invariant.number (c.delete.ensures.call.number) c.delete.ensures.turn)

pub invariant_of-self : goal.invariant_of-self
invariant_of-self c = record {
  one_pass = c.self.invariant.one_pass;
  at = c.delete.ensures.at;
  between = record { rests = c.delete.ensures.rests; none = c.self.invariant.between.none; room = c.self.invariant.between.room };
  number = c.delete.ensures.call.number ∙ c.self.invariant.number;
}
