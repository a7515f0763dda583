use Rattle.engine.specs.Passes.{PassView}
use Rattle.engine.specs.Searches.{MakesQuery, QueryTurns}
use Rattle.engine.proofs.Soles.{sole_call}
use Rattle.std.proofs.Common.{subst, ℕ, ◌∙◌, arith}
use Rattle.engine.proofs.solo.Solo.query.Goals as goal

pub returns-clause-call : goal.returns-clause-call
returns-clause-call c =
    rw (← c.self.view_is)
    (sole_call (λ (before after : PassView). MakesQuery c.self.inside.pool.limits c.args.text.now c.query.result before after) c.self.inside.seat c.query.new.pass c.self.invariant.number (c.query.ensures.number) c.query.ensures.call)

pub returns-clause-turns : goal.returns-clause-turns
returns-clause-turns c =
    rw (← c.self.view_is)
    (subst (λ (n : ℕ). QueryTurns c.self.inside.pool.limits n c.args.text.now c.self.inside.seat.front c.query.new.pass.front c.query.result) c.self.invariant.number c.query.ensures.turns)

pub invariant_of-self : goal.invariant_of-self
invariant_of-self c =
    let had = c.self.invariant.between.room in
    let kept = c.query.ensures.room in
    record {
      one_pass = c.self.invariant.one_pass;
      at = c.query.ensures.at;
      between = record { rests = c.query.ensures.rests; none = c.query.ensures.none; room = omega (arith, had, kept) };
      number = c.query.ensures.number ∙ c.self.invariant.number;
    }
