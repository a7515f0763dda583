use Rattle.std.proofs.Common.{subst, sym}
use Rattle.engine.specs.Passes.{MakesCall, view_of}
use Rattle.funnel_model.specs.declared.reply.Reply.TheVariants as reply
use Rattle.line_proto.specs.Forms.{Amount}
use Rattle.line_proto.specs.Services.{searched}
use Rattle.engine.proofs.engine_pool.EnginePool.count.Goals as goal

pub returns-in-Ok-clause-call : goal.returns-in-Ok-clause-call
returns-in-Ok-clause-call g c =
    let call = c.in-Ok.ensures.call Amount in
    (call.0, call.1, subst (λ n. MakesCall c.args.self.now.limits (searched Amount call.0) (reply.Count n) (view_of c.args.pass.now) (view_of c.search.new.pass)) (sym c.len.ensures) call.2)

pub returns-in-Ok-clause-turns : goal.returns-in-Ok-clause-turns
returns-in-Ok-clause-turns g c = (c.in-Ok.ids, c.len.ensures, c.in-Ok.ensures.turns)

pub returns-in-Err-clause-call : goal.returns-in-Err-clause-call
returns-in-Err-clause-call g c = c.in-Err.ensures.call Amount
