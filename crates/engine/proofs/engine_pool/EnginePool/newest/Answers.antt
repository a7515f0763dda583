use Rattle.std.proofs.Common.{subst, sym}
use Rattle.engine.specs.Passes.{MakesCall, view_of}
use Rattle.engine.specs.declared.querying.SomeFound.{SomeFound}
use Rattle.engine.specs.Searches.{reply_to_some}
use Rattle.line_proto.specs.Forms.{Last}
use Rattle.line_proto.specs.Services.{searched}
use Rattle.engine.proofs.engine_pool.EnginePool.newest.Goals as goal

pub returns-in-Ok-clause-call : goal.returns-in-Ok-clause-call
returns-in-Ok-clause-call g c =
    let call = c.in-Ok.ensures.call (Last c.args.most) in
    (call.0, call.1, subst (λ (s : SomeFound). MakesCall c.args.self.now.limits (searched (Last c.args.most) call.0) (reply_to_some s) (view_of c.args.pass.now) (view_of c.search.new.pass)) (sym c.last_of.ensures) call.2)

pub returns-in-Ok-clause-turns : goal.returns-in-Ok-clause-turns
returns-in-Ok-clause-turns g c = (c.in-Ok.ids, c.last_of.ensures, c.in-Ok.ensures.turns)

pub returns-in-Err-clause-call : goal.returns-in-Err-clause-call
returns-in-Err-clause-call g c = c.in-Err.ensures.call (Last c.args.most)
