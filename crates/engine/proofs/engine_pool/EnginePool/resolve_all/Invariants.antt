use Rattle.std.proofs.Common.{◌≡◌, ◌-◌, length}
use Rattle.engine.proofs.FindParts.{IsFoundTo}
use Rattle.funnel_model.specs.History.{IsFrontOf}
use Rattle.commit_desk.specs.Passes.{IsFinding}
use Rattle.commit_desk.specs.Resolving.{CanGoOn}
use Rattle.commit_desk.specs.Scans.{AreOfToken}
use Rattle.engine.proofs.engine_pool.EnginePool.resolve_all.Given as goal

-- what the candidates before this one give is found, by turns without an event
abbrev pub invariant-loop-open : goal.invariant-loop-open
invariant-loop-open g l = record {
  at : g.T.Turns.made_at l.turns ≡ l.self;
  finding : IsFinding l.self l.token l.pass;
  of_token : AreOfToken l.self.limits.columns l.token l.candidates;
  can : CanGoOn l.candidates l.out l.from;
  so_far : IsFoundTo (g.J.Judge.test l.judge) l.fn.pass l.fn.token l.candidates l.from l.fn.out.found l.out.found;
  same : l.token ≡ l.fn.token;
  seen : IsFrontOf l.fn.pass.number l.fn.pass.front l.pass.front;
  number : l.pass.number ≡ l.fn.pass.number;
}

abbrev pub decreases-loop-open : goal.decreases-loop-open
decreases-loop-open g l = length l.candidates - l.from
