use Rattle.std.proofs.Common.{Err}
use Rattle.commit_desk.proofs.CallEnds.{clears_or_rests}
use Rattle.commit_desk_tests.proofs.setting.Setting.start.Goals as goal

pub invariant_of-result-in-Err : goal.invariant_of-result-in-Err
invariant_of-result-in-Err g c =
    let seat = c.caller.invariant in
    let started = c.in-Err.ensures in
    clears_or_rests g.N.PoolName.pool c.self.inside.desk c.start_clear.new.self c.caller.inside.seat c.start_clear.new.seat seat.seated.same started.none_outstanding seat.idle c.self.invariant.desk_of_name c.self.inside.desk.events_limit
    (Err c.in-Err.refusal) started.answer started.events
