use Rattle.engine.specs.Passes.{view_of}
use Rattle.engine.specs.Searches.{MakesTold, ToldTurns}
use Rattle.line_proto.specs.Forms.{Amount}
use Rattle.line_proto.specs.Requests.{sought}
use Rattle.commit_desk.specs.Passes.{IsResting}
use Rattle.slice_rule.specs.Pools.{PoolId}
use Rattle.std.proofs.Common.{length, subst, sym, arith}
use Rattle.funnel_model.specs.declared.reply.Reply.TheVariants as reply
use Rattle.engine.proofs.engine.Engine.count.Goals as goal

pub count-answer-requires-clause-rests : goal.count-answer-requires-clause-rests
count-answer-requires-clause-rests g c = subst (λ (p : PoolId). IsResting p c.pass.inside.seat) (sym c.self.invariant) c.pass.invariant.between.rests

pub returns-clause-call : goal.returns-clause-call
returns-clause-call g c =
    rw (← c.pass.view_is)
    (subst (λ (p : PoolId). MakesTold Amount reply.Count p.limits (sought c.args.kept) c.count-answer.result (view_of c.pass.inside.seat) (view_of c.count-answer.new.pass)) c.self.invariant c.count-answer.ensures.call)

pub returns-clause-turns : goal.returns-clause-turns
returns-clause-turns g c =
    rw (← c.pass.view_is)
    (subst (λ (p : PoolId). ToldTurns length p.limits c.pass.inside.seat.number (sought c.args.kept) c.pass.inside.seat.front c.count-answer.new.pass.front c.count-answer.result) c.self.invariant c.count-answer.ensures.turns)

pub invariant_of-pass : goal.invariant_of-pass
invariant_of-pass g c =
    let had = c.pass.invariant.between.room in
    let kept = c.count-answer.ensures.room in
    record {
      between = record {
        rests = subst (λ (p : PoolId). IsResting p c.count-answer.new.pass) c.self.invariant c.count-answer.ensures.rests;
        none = c.count-answer.ensures.none;
        room = omega (arith, had, kept);
      };
      dropped = c.free_some.ensures;
    }
