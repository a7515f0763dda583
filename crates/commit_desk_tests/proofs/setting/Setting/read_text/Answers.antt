use Rattle.commit_desk.proofs.CallEnds.{rests_text}
use Rattle.commit_desk_tests.proofs.setting.Setting.read_text.Goals as goal

pub invariant_of-caller : goal.invariant_of-caller
invariant_of-caller g c =
    let seat = c.caller.invariant in
    rests_text g.N.PoolName.pool c.self.inside.desk c.read_text.new.self c.caller.inside.seat c.read_text.new.seat seat.seated.same c.read_text.ensures.none_outstanding seat.idle c.args.id c.read_text.result c.read_text.ensures.events
