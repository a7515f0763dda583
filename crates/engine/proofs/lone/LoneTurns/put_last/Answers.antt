use Rattle.commit_desk.proofs.CallEnds.{rests_put}
use Rattle.engine.proofs.lone.LoneTurns.put_last.Goals as goal

pub returns-clause-rests : goal.returns-clause-rests
returns-clause-rests c =
    let did = c.put.ensures in
    rests_put c.args.pool.now c.args.self.now.desk c.put.new.self c.args.pass.now c.put.new.seat c.requires.written.seated.same did.none_outstanding
    c.args.doc.id c.args.doc.text c.args.claim c.args.bits.now.bits did.events
