use Rattle.commit_desk.proofs.CallEnds.{rests_place}
use Rattle.commit_desk_tests.proofs.setting.Setting.place.Goals as goal

pub invariant_of-caller : goal.invariant_of-caller
invariant_of-caller g c =
    let seat = c.caller.invariant in
    rests_place g.N.PoolName.pool c.self.inside.desk c.read_place.new.self c.caller.inside.seat c.read_place.new.seat seat.seated.same c.read_place.ensures.none_outstanding seat.idle c.read_place.result c.read_place.ensures.events
