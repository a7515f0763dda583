use Rattle.engine.specs.Passes.{PassView}
use Rattle.engine.specs.Searches.{MakesTold, ToldTurns, first_of, reply_to_some}
use Rattle.line_proto.specs.Forms.{First}
use Rattle.line_proto.specs.Requests.{sought}
use Rattle.engine.proofs.Soles.{sole_call}
use Rattle.std.proofs.Common.{subst, ℕ, ◌∙◌, arith}
use Rattle.engine.proofs.solo.Solo.oldest.Goals as goal

pub returns-clause-call : goal.returns-clause-call
returns-clause-call c =
    rw (← c.self.view_is)
    (sole_call (λ (before after : PassView). MakesTold (First c.args.most) reply_to_some c.self.inside.pool.limits (sought c.args.kept) c.oldest.result before after) c.self.inside.seat c.oldest.new.pass c.self.invariant.number (c.oldest.ensures.number) c.oldest.ensures.call)

pub returns-clause-turns : goal.returns-clause-turns
returns-clause-turns c =
    rw (← c.self.view_is)
    (subst (λ (n : ℕ). ToldTurns (first_of c.args.most) c.self.inside.pool.limits n (sought c.args.kept) c.self.inside.seat.front c.oldest.new.pass.front c.oldest.result) c.self.invariant.number c.oldest.ensures.turns)

pub invariant_of-self : goal.invariant_of-self
invariant_of-self c =
    let had = c.self.invariant.between.room in
    let kept = c.oldest.ensures.room in
    record {
      one_pass = c.self.invariant.one_pass;
      at = c.oldest.ensures.at;
      between = record { rests = c.oldest.ensures.rests; none = c.oldest.ensures.none; room = omega (arith, had, kept) };
      number = c.oldest.ensures.number ∙ c.self.invariant.number;
    }
