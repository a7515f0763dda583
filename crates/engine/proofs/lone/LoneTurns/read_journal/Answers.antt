use Rattle.commit_desk.proofs.CallEnds.{rests_journal}
use Rattle.engine.proofs.lone.LoneTurns.read_journal.Goals as goal

pub returns-clause-rests : goal.returns-clause-rests
returns-clause-rests c =
    let rests = c.requires.rests in
    let did = c.read_journal.ensures in
    rests_journal c.args.pool.now c.args.self.now.desk c.read_journal.new.self c.args.pass.now c.read_journal.new.seat rests.seated.same did.none_outstanding rests.idle c.args.from c.read_journal.result did.events
