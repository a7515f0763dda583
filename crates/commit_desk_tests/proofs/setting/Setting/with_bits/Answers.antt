use Rattle.std.proofs.Common.{◌*◌, ◌≤◌, ℕ, List, length, subst}
use Rattle.commit_desk_tests.proofs.setting.Setting.with_bits.Goals as goal

pub invariant_of-result : goal.invariant_of-result
invariant_of-result g c = record {
  no_bits = c.in_ok-bits.ensures.empty;
  room = subst (λ (set : List (List ℕ)). 26 * length set ≤ c.in_ok-bits.bits.room) c.words.ensures.words c.in_ok-bits.ensures.room;
}
