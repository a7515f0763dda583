use Rattle.std.proofs.Common.{ℕ, false, inl, refl, subst, ◌∙◌}
use Rattle.funnel_model.specs.Legal.{IsIdle}
use Rattle.engine.specs.Adds.{OwnTurns}
use Rattle.engine.specs.Moves.{MovesAll}
use Rattle.engine.proofs.AddSteps.{moved_step, moved_turns}
use Rattle.engine.proofs.engine_pool.EnginePool.add_doc.Given.{Over}
use Rattle.engine.proofs.engine_pool.EnginePool.add_doc.Goals as goal

-- the moves before the add
moved : (g : Over) (c : goal.After-add_prepared g) →
    MovesAll c.args.self.now.config c.args.self.now.limits c.args.pass.now.number false c.args.doc.id c.args.pass.now.front c.move_some.new.pass.front
moved g c =
    let pool = c.args.self.now in
    let pass = c.args.pass.now in
    subst (λ (id : ℕ). MovesAll pool.config pool.limits pass.number false id pass.front c.move_some.new.pass.front) c.id.ensures c.move_some.ensures.moves

-- and its turns after them
own_turns : (g : Over) (c : goal.After-add_prepared g) →
    OwnTurns c.args.self.now.config c.args.self.now.limits c.args.pass.now.number c.args.doc.id c.args.doc.text c.move_some.new.pass.front c.add_prepared.new.pass.front c.add_prepared.result
own_turns g c =
    let pool = c.args.self.now in
    let doc = c.args.doc in
    subst (λ (n : ℕ). OwnTurns pool.config pool.limits n doc.id doc.text c.move_some.new.pass.front c.add_prepared.new.pass.front c.add_prepared.result)
    c.move_some.ensures.number c.add_prepared.ensures.turns

pub returns-in-Ok-clause-turns : goal.returns-in-Ok-clause-turns
returns-in-Ok-clause-turns g c =
    let pool = c.args.self.now in
    let pass = c.args.pass.now in
    let doc = c.args.doc in
    moved_turns pool.limits pass.number doc.id doc.text pool.config pass.front c.move_some.new.pass.front c.add_prepared.new.pass.front (moved g c) c.add_prepared.result (own_turns g c)

pub returns-in-Ok-clause-call : goal.returns-in-Ok-clause-call
returns-in-Ok-clause-call g c =
    let pool = c.args.self.now in
    let pass = c.args.pass.now in
    let doc = c.args.doc in
    let start = c.move_some.new.pass in
    record {
      step = moved_step pool.limits pass.number doc.id doc.text pool.config pass.front start.front c.add_prepared.new.pass.front (moved g c) c.add_prepared.result (own_turns g c)
          c.requires.rests.idle (subst (λ (n : ℕ). IsIdle n start.front) c.move_some.ensures.number c.move_some.ensures.rests.idle) c.add_prepared.ensures.legal;
      number = c.add_prepared.ensures.number ∙ c.move_some.ensures.number;
    }

-- no memory was found, and nothing was done
pub returns-in-Err-clause-turns : goal.returns-in-Err-clause-turns
returns-in-Err-clause-turns g c = inl refl
