use Rattle.commit_desk.proofs.CallEnds.{rests_text}
use Rattle.engine.proofs.locked.LockedTurns.look_for_text.Goals as goal

pub returns-clause-rests : goal.returns-clause-rests
returns-clause-rests g c =
    let rests = c.requires.rests in
    let did = c.read_text.ensures in
    rests_text c.args.pool.now c.deref_mut.result.now.desk c.read_text.new.self c.args.pass.now c.read_text.new.seat rests.seated.same did.none_outstanding rests.idle c.args.id c.read_text.result did.events
