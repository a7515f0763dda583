use Rattle.commit_desk.proofs.CallEnds.{rests_delete}
use Rattle.commit_desk_tests.proofs.setting.Setting.delete.Goals as goal

pub invariant_of-caller : goal.invariant_of-caller
invariant_of-caller g c =
    let seat = c.caller.invariant in
    rests_delete g.N.PoolName.pool c.self.inside.desk c.delete-did.new.self c.caller.inside.seat c.delete-did.new.seat seat.seated.same c.delete-did.ensures.none_outstanding seat.idle c.args.id c.delete-did.result.0 c.delete-did.ensures.events
