use Rattle.commit_desk.proofs.CallEnds.{rests_stats}
use Rattle.engine.proofs.locked.LockedTurns.read_stats.Goals as goal

pub returns-clause-rests : goal.returns-clause-rests
returns-clause-rests g c =
    let rests = c.requires.rests in
    let did = c.read_stats.ensures in
    rests_stats c.args.pool.now c.deref_mut.result.now.desk c.read_stats.new.self c.args.pass.now c.read_stats.new.seat rests.seated.same did.none_outstanding rests.idle c.read_stats.result did.events
