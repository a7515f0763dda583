-- the add waited so often so far
use Rattle.std.proofs.Common.{◌≡◌, ◌≤◌, ◌<◌, [], vec_capacity}
use Rattle.std.specs.Prelude.{IfSome, MatchOption}
use Rattle.funnel_model.specs.History.{IsFrontOf}
use Rattle.commit_desk.specs.Passes.{IsResting}
use Rattle.engine.proofs.Waits.{WaitedBefore}
use Rattle.engine.proofs.engine_pool.EnginePool.take.Given as goal

abbrev pub invariant-loop : goal.invariant-loop
invariant-loop g l = record {
  at : g.T.Turns.made_at l.turns ≡ l.self;
  rests : IsResting l.self l.pass;
  number : l.pass.number ≡ l.fn.pass.number;
  room : MatchOption l.room ⊥ (λ empty. (empty.items ≡ []) × (l.self.limits.slices ≤ vec_capacity empty));
  in_range : IfSome l.awaited (λ slice. slice < l.self.limits.slices);
  seen : IsFrontOf l.fn.pass.number l.fn.pass.front l.pass.front;
  waited : WaitedBefore l.self l.fn.pass.number l.fn.pass.front l.pass.front l.awaited l.counter;
}
