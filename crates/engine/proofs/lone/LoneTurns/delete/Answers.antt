use Rattle.commit_desk.proofs.CallEnds.{rests_delete}
use Rattle.engine.proofs.lone.LoneTurns.delete.Goals as goal

pub returns-clause-rests : goal.returns-clause-rests
returns-clause-rests c =
    let rests = c.requires.rests in
    let did = c.delete.ensures in
    rests_delete c.args.pool.now c.args.self.now.desk c.delete.new.self c.args.pass.now c.delete.new.seat rests.seated.same did.none_outstanding rests.idle c.args.id c.delete.result.0 did.events
