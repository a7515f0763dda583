use Rattle.commit_desk.proofs.CallEnds.{rests_stats}
use Rattle.commit_desk_tests.proofs.setting.Setting.stats.Goals as goal

pub invariant_of-caller : goal.invariant_of-caller
invariant_of-caller g c =
    let seat = c.caller.invariant in
    rests_stats g.N.PoolName.pool c.self.inside.desk c.read_stats.new.self c.caller.inside.seat c.read_stats.new.seat seat.seated.same c.read_stats.ensures.none_outstanding seat.idle c.read_stats.result c.read_stats.ensures.events
