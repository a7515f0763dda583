use Rattle.std.proofs.Common.{◌≡◌, ◌≤◌, ℕ, AllPairs, Contains, length, vec_capacity}
use Rattle.commit_desk.specs.declared.find_layouts.FindLayout.{FindLayout}
use Rattle.commit_desk.specs.Passes.{IsFinding}
use Rattle.engine.specs.Finds.{IsFoundBut}
use Rattle.engine.specs.Searches.{is_kept_by}
use Rattle.funnel_model.specs.History.{IsFrontOf}
use Rattle.engine.proofs.engine_pool.EnginePool.find_each.Given as goal

-- what is found is that of the slices but those of the entries that are left
abbrev pub invariant-loop-entry : goal.invariant-loop-entry
invariant-loop-entry g l = record {
  at : g.T.Turns.made_at l.turns ≡ l.self;
  found : IsFoundBut (is_kept_by l.search) l.fn.pass l.fn.begun.token l.layouts.entries.items l.out.found;
  among : (entry : FindLayout) → Contains l.layouts.entries.items entry → Contains l.fn.layouts.entries.items entry;
  apart : AllPairs (λ (one other : FindLayout). (slice : ℕ) → Contains one.slices slice → Contains other.slices slice → ⊥) l.layouts.entries.items;
  finding : IsFinding l.self l.fn.begun.token l.pass;
  same : l.token ≡ l.fn.begun.token;
  seen : IsFrontOf l.fn.pass.number l.fn.pass.front l.pass.front;
  room : vec_capacity l.fn.layouts.entries ≤ vec_capacity l.layouts.entries;
  number : l.pass.number ≡ l.fn.pass.number;
}

abbrev pub decreases-loop-entry : goal.decreases-loop-entry
decreases-loop-entry g l = length l.layouts.entries.items
