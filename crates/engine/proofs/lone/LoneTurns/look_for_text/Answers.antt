use Rattle.commit_desk.proofs.CallEnds.{rests_text}
use Rattle.engine.proofs.lone.LoneTurns.look_for_text.Goals as goal

pub returns-clause-rests : goal.returns-clause-rests
returns-clause-rests c =
    let rests = c.requires.rests in
    let did = c.read_text.ensures in
    rests_text c.args.pool.now c.args.self.now.desk c.read_text.new.self c.args.pass.now c.read_text.new.seat rests.seated.same did.none_outstanding rests.idle c.args.id c.read_text.result did.events
