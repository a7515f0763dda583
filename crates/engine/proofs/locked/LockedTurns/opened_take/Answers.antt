use Rattle.std.proofs.Common.{sym, subst, ◌∙◌}
use Rattle.commit_desk.specs.Layouts.{IsLayoutOf}
use Rattle.commit_desk.proofs.CallEnds.{taken_after}
use Rattle.slice_rule.specs.Pools.{PoolId}
use Rattle.engine.proofs.locked.LockedTurns.opened_take.Goals as goal

pub returns-clause-next : goal.returns-clause-next
returns-clause-next g c layout laid =
    let opened = c.opened_take-claim.ensures in
    let seat = c.args.pass.now in
    let job = c.args.job in
    let start = c.requires.cleared.to_clear in
    taken_after c.args.pool.now c.deref_mut.result.now.desk c.opened_take-claim.new.self seat c.opened_take-claim.new.seat job c.opened_take-claim.result layout start.seated opened.none_outstanding
    (c.deref_mut.result.now.of_pool ∙ c.requires.at) start.in_range opened.claim opened.events opened.prepared
    (subst (λ (p : PoolId). IsLayoutOf p.config job.slice seat.front layout) (sym start.seated.same) laid)
