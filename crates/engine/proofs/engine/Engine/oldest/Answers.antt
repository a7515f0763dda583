use Rattle.engine.specs.Passes.{view_of}
use Rattle.engine.specs.Searches.{MakesTold, ToldTurns, first_of, reply_to_some}
use Rattle.line_proto.specs.Forms.{First}
use Rattle.line_proto.specs.Requests.{sought}
use Rattle.commit_desk.specs.Passes.{IsResting}
use Rattle.slice_rule.specs.Pools.{PoolId}
use Rattle.std.proofs.Common.{subst, sym, arith}
use Rattle.engine.proofs.engine.Engine.oldest.Goals as goal

pub oldest-answer-requires-clause-rests : goal.oldest-answer-requires-clause-rests
oldest-answer-requires-clause-rests g c = subst (λ (p : PoolId). IsResting p c.pass.inside.seat) (sym c.self.invariant) c.pass.invariant.between.rests

pub returns-clause-call : goal.returns-clause-call
returns-clause-call g c =
    rw (← c.pass.view_is)
    (subst (λ (p : PoolId). MakesTold (First c.args.most) reply_to_some p.limits (sought c.args.kept) c.oldest-answer.result (view_of c.pass.inside.seat) (view_of c.oldest-answer.new.pass)) c.self.invariant c.oldest-answer.ensures.call)

pub returns-clause-turns : goal.returns-clause-turns
returns-clause-turns g c =
    rw (← c.pass.view_is)
    (subst (λ (p : PoolId). ToldTurns (first_of c.args.most) p.limits c.pass.inside.seat.number (sought c.args.kept) c.pass.inside.seat.front c.oldest-answer.new.pass.front c.oldest-answer.result) c.self.invariant c.oldest-answer.ensures.turns)

pub invariant_of-pass : goal.invariant_of-pass
invariant_of-pass g c =
    let had = c.pass.invariant.between.room in
    let kept = c.oldest-answer.ensures.room in
    record {
      between = record {
        rests = subst (λ (p : PoolId). IsResting p c.oldest-answer.new.pass) c.self.invariant c.oldest-answer.ensures.rests;
        none = c.oldest-answer.ensures.none;
        room = omega (arith, had, kept);
      };
      dropped = c.free_some.ensures;
    }
