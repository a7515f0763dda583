use Rattle.engine.specs.Passes.{view_of}
use Rattle.engine.specs.Searches.{MakesTold, ToldTurns, last_of, reply_to_some}
use Rattle.line_proto.specs.Forms.{Last}
use Rattle.line_proto.specs.Requests.{sought}
use Rattle.commit_desk.specs.Passes.{IsResting}
use Rattle.slice_rule.specs.Pools.{PoolId}
use Rattle.std.proofs.Common.{subst, sym, arith}
use Rattle.engine.proofs.engine.Engine.newest.Goals as goal

pub newest-answer-requires-clause-rests : goal.newest-answer-requires-clause-rests
newest-answer-requires-clause-rests g c = subst (λ (p : PoolId). IsResting p c.pass.inside.seat) (sym c.self.invariant) c.pass.invariant.between.rests

pub returns-clause-call : goal.returns-clause-call
returns-clause-call g c =
    rw (← c.pass.view_is)
    (subst (λ (p : PoolId). MakesTold (Last c.args.most) reply_to_some p.limits (sought c.args.kept) c.newest-answer.result (view_of c.pass.inside.seat) (view_of c.newest-answer.new.pass)) c.self.invariant c.newest-answer.ensures.call)

pub returns-clause-turns : goal.returns-clause-turns
returns-clause-turns g c =
    rw (← c.pass.view_is)
    (subst (λ (p : PoolId). ToldTurns (last_of c.args.most) p.limits c.pass.inside.seat.number (sought c.args.kept) c.pass.inside.seat.front c.newest-answer.new.pass.front c.newest-answer.result) c.self.invariant c.newest-answer.ensures.turns)

pub invariant_of-pass : goal.invariant_of-pass
invariant_of-pass g c =
    let had = c.pass.invariant.between.room in
    let kept = c.newest-answer.ensures.room in
    record {
      between = record {
        rests = subst (λ (p : PoolId). IsResting p c.newest-answer.new.pass) c.self.invariant c.newest-answer.ensures.rests;
        none = c.newest-answer.ensures.none;
        room = omega (arith, had, kept);
      };
      dropped = c.free_some.ensures;
    }
