use Rattle.engine.specs.Passes.{PassView}
use Rattle.engine.specs.Searches.{MakesTold, ToldTurns, last_of, reply_to_some}
use Rattle.line_proto.specs.Forms.{Last}
use Rattle.line_proto.specs.Requests.{sought}
use Rattle.engine.proofs.Soles.{sole_call}
use Rattle.std.proofs.Common.{subst, ℕ, ◌∙◌, arith}
use Rattle.engine.proofs.solo.Solo.newest.Goals as goal

pub returns-clause-call : goal.returns-clause-call
returns-clause-call c =
    rw (← c.self.view_is)
    (sole_call (λ (before after : PassView). MakesTold (Last c.args.most) reply_to_some c.self.inside.pool.limits (sought c.args.kept) c.newest.result before after) c.self.inside.seat c.newest.new.pass c.self.invariant.number (c.newest.ensures.number) c.newest.ensures.call)

pub returns-clause-turns : goal.returns-clause-turns
returns-clause-turns c =
    rw (← c.self.view_is)
    (subst (λ (n : ℕ). ToldTurns (last_of c.args.most) c.self.inside.pool.limits n (sought c.args.kept) c.self.inside.seat.front c.newest.new.pass.front c.newest.result) c.self.invariant.number c.newest.ensures.turns)

pub invariant_of-self : goal.invariant_of-self
invariant_of-self c =
    let had = c.self.invariant.between.room in
    let kept = c.newest.ensures.room in
    record {
      one_pass = c.self.invariant.one_pass;
      at = c.newest.ensures.at;
      between = record { rests = c.newest.ensures.rests; none = c.newest.ensures.none; room = omega (arith, had, kept) };
      number = c.newest.ensures.number ∙ c.self.invariant.number;
    }
