use Rattle.engine.specs.Passes.{PassView}
use Rattle.engine.specs.Searches.{MakesTold, ToldTurns}
use Rattle.line_proto.specs.Forms.{Amount}
use Rattle.line_proto.specs.Requests.{sought}
use Rattle.engine.proofs.Soles.{sole_call}
use Rattle.std.proofs.Common.{length, subst, ℕ, ◌∙◌, arith}
use Rattle.funnel_model.specs.declared.reply.Reply.TheVariants as reply
use Rattle.engine.proofs.solo.Solo.count.Goals as goal

pub returns-clause-call : goal.returns-clause-call
returns-clause-call c =
    rw (← c.self.view_is)
    (sole_call (λ (before after : PassView). MakesTold Amount reply.Count c.self.inside.pool.limits (sought c.args.kept) c.count.result before after) c.self.inside.seat c.count.new.pass c.self.invariant.number (c.count.ensures.number) c.count.ensures.call)

pub returns-clause-turns : goal.returns-clause-turns
returns-clause-turns c =
    rw (← c.self.view_is)
    (subst (λ (n : ℕ). ToldTurns length c.self.inside.pool.limits n (sought c.args.kept) c.self.inside.seat.front c.count.new.pass.front c.count.result) c.self.invariant.number c.count.ensures.turns)

pub invariant_of-self : goal.invariant_of-self
invariant_of-self c =
    let had = c.self.invariant.between.room in
    let kept = c.count.ensures.room in
    record {
      one_pass = c.self.invariant.one_pass;
      at = c.count.ensures.at;
      between = record { rests = c.count.ensures.rests; none = c.count.ensures.none; room = omega (arith, had, kept) };
      number = c.count.ensures.number ∙ c.self.invariant.number;
    }
