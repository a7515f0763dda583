use Rattle.std.proofs.Common.{[], ap, sym, ◌∙◌, subst}
use Rattle.slice_rule.specs.Pools.{PoolId}
use Rattle.slice_recycler.specs.Turns.{IsTurn}
use Rattle.engine.specs.Moves.{IsLookForMove}
use Rattle.commit_desk.proofs.CallEnds.{rests_none}
use Rattle.engine.proofs.MovePasses.{looked_for}
use Rattle.engine.proofs.locked.LockedTurns.look.Goals as goal

pub returns-clause-turn : goal.returns-clause-turn
returns-clause-turn g c =
    let pool = c.args.pool.now in
    let pass = c.args.pass.now in
    let named = c.deref_mut-named.result.now in
    let did = c.look.ensures in
    let is = c.pool.invariant in
    subst (λ r. IsTurn pass.number pass.front c.look.new.seat.front (IsLookForMove r pool.limits pass.number c.args.replaces c.args.id c.look.result) []) (is.kept_free ∙ ap (λ (p : PoolId). p.config.reserve) c.pool.view_is)
    (looked_for pool named.desk c.look.new.self pass c.look.new.seat named.looks c.pool.inside.reserve c.args.replaces c.args.id c.look.result (named.of_pool ∙ c.requires.at) (named.limit ∙ sym named.pool_limit) named.each_pass did.answer did.events)

pub returns-clause-rests : goal.returns-clause-rests
returns-clause-rests g c =
    let looked = c.look.ensures in
    let rests = c.requires.rests in
    rests_none c.args.pool.now c.deref_mut-named.result.now.desk c.look.new.self c.args.pass.now c.look.new.seat rests.seated.same looked.none_outstanding rests.idle looked.events
