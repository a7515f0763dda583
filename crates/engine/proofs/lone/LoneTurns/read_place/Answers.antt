use Rattle.commit_desk.proofs.CallEnds.{rests_place}
use Rattle.engine.proofs.lone.LoneTurns.read_place.Goals as goal

pub returns-clause-rests : goal.returns-clause-rests
returns-clause-rests c =
    let rests = c.requires.rests in
    let did = c.read_place.ensures in
    rests_place c.args.pool.now c.args.self.now.desk c.read_place.new.self c.args.pass.now c.read_place.new.seat rests.seated.same did.none_outstanding rests.idle c.read_place.result did.events
