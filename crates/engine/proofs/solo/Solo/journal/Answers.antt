use Rattle.engine.specs.Passes.{MakesCall, PassView}
use Rattle.engine.specs.Turns.{JournalTurn}
use Rattle.engine.proofs.Soles.{sole_call}
use Rattle.std.proofs.Common.{◌∙◌}
use Rattle.engine.specs.Replies.{reply_of_journal}
use Rattle.funnel_model.specs.declared.call.Call.TheVariants as call
use Rattle.engine.proofs.solo.Solo.journal.Goals as goal

pub returns-clause-call : goal.returns-clause-call
returns-clause-call c =
    rw (← c.self.view_is)
    (sole_call (λ (before after : PassView). MakesCall c.self.inside.pool.limits (call.Journal c.args.from) (reply_of_journal c.journal.result) before after) c.self.inside.seat c.journal.new.pass c.self.invariant.number (c.journal.ensures.call.number) c.journal.ensures.call)

pub returns-clause-turn : goal.returns-clause-turn
returns-clause-turn c =
    rw (← c.self.view_is)
    (sole_call (λ (before after : PassView). JournalTurn c.self.inside.pool.limits c.args.from c.journal.result before after) c.self.inside.seat c.journal.new.pass c.self.invariant.number (c.journal.ensures.call.number) c.journal.ensures.turn)

pub invariant_of-self : goal.invariant_of-self
invariant_of-self c = record {
  one_pass = c.self.invariant.one_pass;
  at = c.journal.ensures.at;
  between = record { rests = c.journal.ensures.rests; none = c.self.invariant.between.none; room = c.self.invariant.between.room };
  number = c.journal.ensures.call.number ∙ c.self.invariant.number;
}
