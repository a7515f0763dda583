use Rattle.std.proofs.Common.{ℕ, List, inl, refl, subst, ◌∙◌}
use Rattle.funnel_model.specs.Legal.{IsIdle}
use Rattle.engine.specs.Puts.{OwnPutTurns}
use Rattle.engine.proofs.PutSteps.{moved_put_step, moved_put_turns}
use Rattle.engine.proofs.engine_pool.EnginePool.put.Given.{Over}
use Rattle.engine.proofs.engine_pool.EnginePool.put.Goals as goal

-- the turns after the moves are those of this put
own_turns : (g : Over) (c : goal.After-put_prepared g) →
    OwnPutTurns c.args.self.now.config c.args.self.now.limits c.args.pass.now.number c.args.id c.args.text.now c.move_some.new.pass.front c.put_prepared.new.pass.front c.put_prepared.result
own_turns g c =
    let pool = c.args.self.now in
    let doc = c.in-Ok.prepared.0 in
    let start = c.move_some.new.pass in
    let after = c.put_prepared.new.pass.front in
    let answer = c.put_prepared.result in
    subst (λ (n : ℕ). OwnPutTurns pool.config pool.limits n c.args.id c.args.text.now start.front after answer) c.move_some.ensures.number
    (subst (λ (t : List ℕ). OwnPutTurns pool.config pool.limits start.number c.args.id t start.front after answer) c.in-Ok.ensures.text
    (subst (λ (i : ℕ). OwnPutTurns pool.config pool.limits start.number i doc.text start.front after answer) c.in-Ok.ensures.id c.put_prepared.ensures.turns))

pub returns-in-Ok-clause-turns : goal.returns-in-Ok-clause-turns
returns-in-Ok-clause-turns g c =
    let pool = c.args.self.now in
    let seat = c.args.pass.now in
    let after = c.put_prepared.new.pass.front in
    let moved = c.move_some.ensures.moves in
    (moved_put_turns pool.limits seat.number c.args.id c.args.text.now pool.config seat.front c.move_some.new.pass.front after moved c.put_prepared.result (own_turns g c))

pub returns-in-Ok-clause-call : goal.returns-in-Ok-clause-call
returns-in-Ok-clause-call g c =
    let pool = c.args.self.now in
    let seat = c.args.pass.now in
    let start = c.move_some.new.pass in
    let next = c.put_prepared.new.pass in
    let moved = c.move_some.ensures.moves in
    record {
      step = moved_put_step pool.limits seat.number c.args.id c.args.text.now pool.config seat.front start.front next.front moved c.put_prepared.result (own_turns g c)
          c.requires.rests.idle (subst (λ (n : ℕ). IsIdle n start.front) c.move_some.ensures.number c.move_some.ensures.rests.idle) c.put_prepared.ensures.legal;
      number = c.put_prepared.ensures.number ∙ c.move_some.ensures.number;
    }

-- no memory was found, and nothing was done
pub returns-in-Err-clause-turns : goal.returns-in-Err-clause-turns
returns-in-Err-clause-turns g c = inl refl
