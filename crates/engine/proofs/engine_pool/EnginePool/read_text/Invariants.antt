use Rattle.std.proofs.Common.{◌≡◌, [], string_bytes}
use Rattle.commit_desk.specs.Passes.{IsResting}
use Rattle.funnel_model.specs.History.{IsFrontOf}
use Rattle.engine.proofs.engine_pool.EnginePool.read_text.Given as goal

-- there was no room for the text so far
abbrev pub invariant-loop : goal.invariant-loop
invariant-loop g l = record {
  at : g.T.Turns.made_at l.turns ≡ l.self;
  rests : IsResting l.self l.pass;
  number : l.pass.number ≡ l.fn.pass.number;
  empty : string_bytes l.room ≡ [];
  seen : IsFrontOf l.fn.pass.number l.fn.pass.front l.pass.front;
}
