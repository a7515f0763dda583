use Rattle.std.proofs.Common.{refl}
use Rattle.funnel_model.specs.declared.event.Event.TheVariants as event
use Rattle.commit_desk.proofs.CallEnds.{rests_one}
use Rattle.engine.proofs.locked.LockedTurns.drop_find.Goals as goal

pub returns-clause-rests : goal.returns-clause-rests
returns-clause-rests g c =
    let seat = c.args.pass.now in
    rests_one c.args.pool.now c.deref_mut.result.now.desk c.end_find.new.self seat c.end_find.new.seat c.requires.finding.seated.same c.end_find.ensures.none_outstanding
    (event.End seat.number) refl refl c.end_find.ensures.events
