use Rattle.engine.specs.Passes.{MakesCall, PassView}
use Rattle.engine.specs.Adds.{AddTurns}
use Rattle.engine.proofs.Soles.{sole_call}
use Rattle.std.proofs.Common.{subst, ℕ, ◌∙◌}
use Rattle.engine.specs.Replies.{reply_of_add}
use Rattle.funnel_model.specs.declared.call.Call.TheVariants as call
use Rattle.engine.proofs.solo.Solo.add_doc.Goals as goal

pub returns-clause-call : goal.returns-clause-call
returns-clause-call c =
    rw (← c.self.view_is)
    (sole_call (λ (before after : PassView). MakesCall c.self.inside.pool.limits (call.Add c.args.doc.id c.args.doc.text) (reply_of_add c.add_doc.result) before after) c.self.inside.seat c.add_doc.new.pass c.self.invariant.number (c.add_doc.ensures.call.number) c.add_doc.ensures.call)

pub returns-clause-turns : goal.returns-clause-turns
returns-clause-turns c =
    rw (← c.self.view_is)
    (subst (λ (n : ℕ). AddTurns c.self.inside.pool.config c.self.inside.pool.limits n c.args.doc.id c.args.doc.text c.self.inside.seat.front c.add_doc.new.pass.front c.add_doc.result) c.self.invariant.number c.add_doc.ensures.turns)

pub invariant_of-self : goal.invariant_of-self
invariant_of-self c = record {
  one_pass = c.self.invariant.one_pass;
  at = c.add_doc.ensures.at;
  between = record { rests = c.add_doc.ensures.rests; none = c.self.invariant.between.none; room = c.self.invariant.between.room };
  number = c.add_doc.ensures.call.number ∙ c.self.invariant.number;
}
