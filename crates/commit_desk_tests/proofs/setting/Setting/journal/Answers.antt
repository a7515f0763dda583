use Rattle.commit_desk.proofs.CallEnds.{rests_journal}
use Rattle.commit_desk_tests.proofs.setting.Setting.journal.Goals as goal

pub invariant_of-caller : goal.invariant_of-caller
invariant_of-caller g c =
    let seat = c.caller.invariant in
    rests_journal g.N.PoolName.pool c.self.inside.desk c.read_journal.new.self c.caller.inside.seat c.read_journal.new.seat seat.seated.same c.read_journal.ensures.none_outstanding seat.idle 0 c.read_journal.result c.read_journal.ensures.events
