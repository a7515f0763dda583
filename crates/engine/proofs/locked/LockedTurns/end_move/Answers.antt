use Rattle.commit_desk.proofs.CallEnds.{rests_moved}
use Rattle.commit_desk.specs.Leaving.{is_moved}
use Rattle.engine.proofs.locked.LockedTurns.end_move.Goals as goal

pub returns-clause-rests : goal.returns-clause-rests
returns-clause-rests g c =
    let ended = c.end_move.ensures in
    rests_moved c.args.pool.now c.deref_mut-named.result.now.desk c.end_move.new.self c.args.pass.now c.end_move.new.seat c.requires.written.seated.same ended.none_outstanding
    c.args.look c.args.claim c.args.bits.now.bits (is_moved c.end_move.result) ended.events
