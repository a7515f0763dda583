use Rattle.std.proofs.Common.{sym, subst}
use Rattle.commit_desk.specs.Layouts.{IsLayoutOf}
use Rattle.commit_desk.proofs.CallEnds.{seated_still, taken_after}
use Rattle.slice_rule.specs.Pools.{PoolId}
use Rattle.slice_rule.specs.Seats.{PassState}
use Rattle.commit_desk_tests.proofs.Settings.{can_clear_slice, cleared}
use Rattle.commit_desk_tests.proofs.setting.Setting.open_and_claim.Goals as goal

pub opened_take-claim-requires-clause-cleared : goal.opened_take-claim-requires-clause-cleared
opened_take-claim-requires-clause-cleared g c =
    let reusing = c.reusing.inside in
    let has = cleared g.N.PoolName.pool c.self.inside.layout c.self.inside.pool c.self.inside.desk.pool c.self.inside.base c.self.invariant reusing.seat c.clear_slice.new.seat reusing.to_clear.job c.reusing.invariant.0 c.clear_slice.ensures in
    record { holds = has.to_clear.holds; zeros = has.zeros }

pub clear_slice-requires : goal.clear_slice-requires
clear_slice-requires g c =
    let reusing = c.reusing.inside in
    let range = c.slice_range-room.ensures in
    can_clear_slice g.N.PoolName.pool c.self.inside.layout c.self.inside.pool c.self.inside.desk.pool c.self.inside.base c.self.invariant reusing.seat reusing.to_clear.job c.reusing.invariant.0 range.small_pool c.slice_range-room.result.1 range.words

pub invariant_of-result : goal.invariant_of-result
invariant_of-result g c =
    let name = g.N.PoolName.pool in
    let reusing = c.reusing.inside in
    let did = c.clear_slice.ensures in
    let middle = c.clear_slice.new.seat in
    let start = c.reusing.invariant in
    let opened = c.opened_take-claim.ensures in
    let seated = seated_still name reusing.seat middle did.same start.0.seated in
    let laid : IsLayoutOf middle.pool.config reusing.to_clear.job.slice middle.front reusing.layout =
    subst (λ (p : PassState). IsLayoutOf p.pool.config reusing.to_clear.job.slice p.front reusing.layout) (sym did.same)
    (subst (λ (p : PoolId). IsLayoutOf p.config reusing.to_clear.job.slice reusing.seat.front reusing.layout) (sym start.0.seated.same) start.2) in
    taken_after name c.self.inside.desk c.opened_take-claim.new.self middle c.opened_take-claim.new.seat reusing.to_clear.job c.opened_take-claim.result reusing.layout seated opened.none_outstanding
    c.self.invariant.desk_of_name start.0.in_range opened.claim opened.events opened.prepared laid
