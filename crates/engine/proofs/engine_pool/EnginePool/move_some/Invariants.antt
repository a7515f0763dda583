use Rattle.std.proofs.Common.{◌≡◌}
use Rattle.commit_desk.specs.Passes.{IsResting}
use Rattle.engine.specs.Moves.{SomeMoves}
use Rattle.engine.proofs.engine_pool.EnginePool.move_some.Given as goal

-- each move so far was made
abbrev pub invariant-loop : goal.invariant-loop
invariant-loop g l = record {
  at : g.T.Turns.made_at l.turns ≡ l.self;
  moved : SomeMoves l.self.config l.self.limits l.fn.pass.number l.fn.replaces l.fn.id l.fn.pass.front l.pass.front l.counter;
  rests : IsResting l.self l.pass;
  number : l.pass.number ≡ l.fn.pass.number;
}
