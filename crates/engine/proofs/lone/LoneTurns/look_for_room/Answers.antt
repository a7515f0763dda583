use Rattle.std.proofs.Common.{ℕ, ◌<◌, ap, sym, subst, ◌∙◌}
use Rattle.commit_desk.proofs.CallEnds.{is_to_do}
use Rattle.engine.proofs.Soles.{sole_look}
use Rattle.slice_rule.specs.Pools.{PoolId}
use Rattle.engine.proofs.lone.LoneTurns.look_for_room.Goals as goal

pub returns-clause-next : goal.returns-clause-next
returns-clause-next c =
    let desk = c.args.self.now.desk in
    let doc = c.args.doc.now in
    let rests = c.requires.rests in
    let took = c.take.ensures in
    is_to_do c.args.pool.now desk c.take.new.self c.args.pass.now c.take.new.seat rests.seated.same took.none_outstanding rests.idle
    c.requires.at desk.events_limit c.args.replaces doc.id doc.text c.take.result took.answer.answers took.handed.prepared took.events

pub returns-clause-turn : goal.returns-clause-turn
returns-clause-turn c =
    let lone = c.args.self.now in
    let doc = c.args.doc.now in
    let at = c.requires.at in
    let took = c.take.ensures in
    let low = subst (λ (n : ℕ). n < c.args.pass.now.pool.limits.passes) c.number.ensures.number c.number.ensures.in_range in
    sole_look c.args.pool.now lone.desk c.take.new.self c.args.pass.now c.take.new.seat at (lone.limit ∙ sym lone.pool_limit ∙ ap (λ (p : PoolId). p.limits.events) at)
    (sym (ap (λ (p : PoolId). p.limits.passes) at) ∙ lone.one_pass) (subst (λ (p : PoolId). c.args.pass.now.number < p.limits.passes) c.requires.rests.seated.same low)
    c.requires.rests.idle c.args.replaces doc.id doc.text c.args.awaited c.args.last c.take.result took.answer took.handed.old took.events
