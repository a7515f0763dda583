use Rattle.std.proofs.Common.{◌∙◌}
use Rattle.commit_desk.proofs.CallEnds.{is_to_do}
use Rattle.engine.proofs.locked.LockedTurns.look_for_room.Goals as goal

pub returns-clause-next : goal.returns-clause-next
returns-clause-next g c =
    let desk = c.deref_mut.result.now.desk in
    let doc = c.args.doc.now in
    let rests = c.requires.rests in
    let took = c.take.ensures in
    is_to_do c.args.pool.now desk c.take.new.self c.args.pass.now c.take.new.seat rests.seated.same took.none_outstanding rests.idle
    (c.deref_mut.result.now.of_pool ∙ c.requires.at) desk.events_limit c.args.replaces doc.id doc.text c.take.result took.answer.answers took.handed.prepared took.events
