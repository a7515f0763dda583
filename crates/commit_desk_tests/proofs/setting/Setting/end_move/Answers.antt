use Rattle.std.proofs.Common.{ℕ, List, sym, subst}
use Rattle.commit_desk.proofs.CallEnds.{rests_moved}
use Rattle.commit_desk.proofs.HeldClaims.{holds_by_own}
use Rattle.commit_desk.specs.Leaving.{is_moved}
use Rattle.commit_desk.specs.Passes.{HasWritten}
use Rattle.commit_desk_tests.specs.Tested.{IsDraft}
use Rattle.slice_rule.specs.Pools.{PoolId}
use Rattle.commit_desk_tests.proofs.setting.Setting.end_move.Goals as goal

pub set_bits-requires-clause-draft : goal.set_bits-requires-clause-draft
set_bits-requires-clause-draft g c = subst (λ (set : List (List ℕ)). IsDraft set c.moving.inside.bits) (sym c.words.ensures.words) c.moving.invariant.2

pub end_move-ended-requires-clause-look : goal.end_move-ended-requires-clause-look
end_move-ended-requires-clause-look g c =
    let at = c.moving.inside in
    holds_by_own at.seat c.set_bits.new.seat at.taken.look c.set_bits.ensures.seat c.moving.invariant.1

pub end_move-ended-requires-clause-written : goal.end_move-ended-requires-clause-written
end_move-ended-requires-clause-written g c =
    let at = c.moving.inside in
    let bits = c.set_bits.new.bits.bits in
    subst (λ (p : PoolId). HasWritten p at.taken.claim at.taken.look.doc.words bits c.set_bits.new.seat) (sym c.self.invariant.desk_of_name)
    (subst (λ (set : List (List ℕ)). HasWritten g.N.PoolName.pool at.taken.claim set bits c.set_bits.new.seat) c.words.ensures.words c.set_bits.ensures.written)

pub invariant_of-result : goal.invariant_of-result
invariant_of-result g c =
    let at = c.moving.inside in
    let ended = c.end_move-ended.ensures in
    rests_moved g.N.PoolName.pool c.self.inside.desk c.end_move-ended.new.self c.set_bits.new.seat c.end_move-ended.new.seat c.set_bits.ensures.written.seated.same ended.none_outstanding
    at.taken.look at.taken.claim c.set_bits.new.bits.bits (is_moved c.end_move-ended.result) ended.events
