use Rattle.engine.specs.Passes.{MakesCall, PassView}
use Rattle.engine.specs.Finds.{FindTurns}
use Rattle.engine.proofs.Soles.{sole_call}
use Rattle.std.proofs.Common.{subst, ℕ, ◌∙◌, arith}
use Rattle.engine.specs.Replies.{reply_of_find}
use Rattle.funnel_model.specs.declared.call.Call.TheVariants as call
use Rattle.engine.proofs.solo.Solo.find.Goals as goal

pub returns-clause-call : goal.returns-clause-call
returns-clause-call c =
    rw (← c.self.view_is)
    (sole_call (λ (before after : PassView). MakesCall c.self.inside.pool.limits (call.Find c.args.query.now) (reply_of_find c.find.result) before after) c.self.inside.seat c.find.new.pass c.self.invariant.number (c.find.ensures.call.number) c.find.ensures.call)

pub returns-clause-turns : goal.returns-clause-turns
returns-clause-turns c =
    rw (← c.self.view_is)
    (subst (λ (n : ℕ). FindTurns c.self.inside.pool.limits n c.args.query.now c.self.inside.seat.front c.find.new.pass.front c.find.result) c.self.invariant.number c.find.ensures.turns)

pub invariant_of-self : goal.invariant_of-self
invariant_of-self c =
    let had = c.self.invariant.between.room in
    let kept = c.find.ensures.room in
    record {
      one_pass = c.self.invariant.one_pass;
      at = c.find.ensures.at;
      between = record { rests = c.find.ensures.rests; none = c.find.ensures.none; room = omega (arith, had, kept) };
      number = c.find.ensures.call.number ∙ c.self.invariant.number;
    }
