use Rattle.std.proofs.Common.{refl}
use Rattle.funnel_model.specs.declared.event.Event.TheVariants as event
use Rattle.commit_desk.proofs.CallEnds.{rests_one}
use Rattle.commit_desk_tests.proofs.setting.Setting.end.Goals as goal

pub invariant_of-result : goal.invariant_of-result
invariant_of-result g c =
    let seat = c.looking.inside.seat in
    rests_one g.N.PoolName.pool c.self.inside.desk c.end_find.new.self seat c.end_find.new.seat c.looking.invariant.all.finding.seated.same c.end_find.ensures.none_outstanding (event.End seat.number) refl refl c.end_find.ensures.events
