use Rattle.commit_desk.proofs.CallEnds.{writes_or_rests}
use Rattle.engine.proofs.lone.LoneTurns.take_move.Goals as goal

pub returns-clause-next : goal.returns-clause-next
returns-clause-next c =
    let desk = c.args.self.now.desk in
    let rests = c.requires.rests in
    let took = c.take_move.ensures in
    writes_or_rests c.args.pool.now desk c.take_move.new.self c.args.pass.now c.take_move.new.seat rests.seated.same took.none_outstanding rests.idle
    c.requires.at desk.events_limit c.args.look c.take_move.result took.answer took.fresh took.events
