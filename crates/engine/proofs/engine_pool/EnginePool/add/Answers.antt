use Rattle.std.proofs.Common.{ℕ, List, inl, refl, subst}
use Rattle.funnel_model.specs.declared.call.Call.TheVariants as call
use Rattle.engine.specs.Adds.{AddTurns}
use Rattle.engine.specs.Passes.{MakesCall, view_of}
use Rattle.engine.specs.Replies.{reply_of_add}
use Rattle.engine.proofs.engine_pool.EnginePool.add.Goals as goal

-- the document has the number and the text that were given
pub returns-in-Ok-clause-turns : goal.returns-in-Ok-clause-turns
returns-in-Ok-clause-turns g c =
    let pool = c.args.self.now in
    let pass = c.args.pass.now in
    let doc = c.in-Ok.doc in
    let after = c.add_doc.new.pass.front in
    subst (λ (t : List ℕ). AddTurns pool.config pool.limits pass.number c.args.id t pass.front after c.add_doc.result) c.in-Ok.ensures.text
    (subst (λ (i : ℕ). AddTurns pool.config pool.limits pass.number i doc.text pass.front after c.add_doc.result) c.in-Ok.ensures.id c.add_doc.ensures.turns)

pub returns-in-Ok-clause-call : goal.returns-in-Ok-clause-call
returns-in-Ok-clause-call g c =
    let limits = c.args.self.now.limits in
    let pass = c.args.pass.now in
    let doc = c.in-Ok.doc in
    let reply = reply_of_add c.add_doc.result in
    subst (λ (t : List ℕ). MakesCall limits (call.Add c.args.id t) reply (view_of pass) (view_of c.add_doc.new.pass)) c.in-Ok.ensures.text
    (subst (λ (i : ℕ). MakesCall limits (call.Add i doc.text) reply (view_of pass) (view_of c.add_doc.new.pass)) c.in-Ok.ensures.id c.add_doc.ensures.call)

-- no memory was found, and nothing was done
pub returns-in-Err-clause-turns : goal.returns-in-Err-clause-turns
returns-in-Err-clause-turns g c = inl refl
