use Rattle.std.proofs.Common.{◌*◌, ◌≤◌, ℕ, List, length, subst}
use Rattle.engine.proofs.engine_pool.EnginePool.rooms.Goals as goal

pub returns-clause-prepared : goal.returns-clause-prepared
returns-clause-prepared c = record {
  of_text = c.words.ensures.of_text;
  no_bits = c.in_ok-bits.ensures.empty;
  room = subst (λ (set : List (List ℕ)). 26 * length set ≤ c.in_ok-bits.bits.room) c.words.ensures.words c.in_ok-bits.ensures.room;
}
