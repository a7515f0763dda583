use Rattle.std.proofs.Common.{ℕ, List, sym, subst}
use Rattle.commit_desk.specs.Passes.{HasWritten}
use Rattle.commit_desk_tests.specs.Tested.{IsDraft}
use Rattle.commit_desk_tests.proofs.setting.Setting.write.Goals as goal

pub set_bits-requires-clause-draft : goal.set_bits-requires-clause-draft
set_bits-requires-clause-draft g c = subst (λ (set : List (List ℕ)). IsDraft set c.draft.inside.bits) (sym c.words.ensures.words) c.draft.invariant

pub invariant_of-result : goal.invariant_of-result
invariant_of-result g c =
    subst (λ (set : List (List ℕ)). HasWritten g.N.PoolName.pool c.claiming.inside.claim set c.set_bits.new.bits.bits c.set_bits.new.seat) c.words.ensures.words c.set_bits.ensures.written
