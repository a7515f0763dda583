use Rattle.std.proofs.Common.{Ok, sym, subst, ◌∙◌}
use Rattle.commit_desk.proofs.CallEnds.{rests_none, writes_or_rests}
use Rattle.commit_desk.proofs.HeldClaims.{holds_on}
use Rattle.commit_desk.specs.declared.look.Look.{Look}
use Rattle.commit_desk.specs.Moving.{HoldsLook, events_of_take_move}
use Rattle.commit_desk_tests.specs.Tested.{IsDraft}
use Rattle.slice_recycler.proofs.Steps.{turn_grows}
use Rattle.slice_recycler.specs.Turns.{IsTurn}
use Rattle.commit_desk_tests.proofs.setting.Setting.take_move.Goals as goal

pub invariant_of-result : goal.invariant_of-result
invariant_of-result g c =
    let at = c.looked.inside in
    let is = c.looked.invariant in
    let next = c.take_move.new.seat in
    let took = c.in-Ok.ensures in
    let taken = c.in-Ok.taken in
    let events = events_of_take_move at.seat.number (Ok taken) in
    let turn : IsTurn at.seat.number at.seat.front next.front (λ _. Unit {0}) events =
    record { earlier = c.self.inside.desk.history; seen = took.events.seen; answer = tt; made = took.events.front ∙ took.events.history } in
    let held : HoldsLook next at.look = holds_on at.seat next at.look (turn_grows {answers = λ _. Unit {0}} at.seat.number at.seat.front next.front events turn) is.1 in (
      writes_or_rests g.N.PoolName.pool c.self.inside.desk c.take_move.new.self at.seat next is.0.seated.same took.none_outstanding is.0.idle c.self.invariant.desk_of_name
          c.self.inside.desk.events_limit at.look (Ok taken) took.answer took.fresh took.events,
      subst (HoldsLook next) (sym took.answer.1) held,
      subst (λ (look : Look). IsDraft look.doc.words at.bits) (sym took.answer.1) is.2,
    )

pub invariant_of-result-in-Err : goal.invariant_of-result-in-Err
invariant_of-result-in-Err g c =
    let at = c.looked.inside in
    let is = c.looked.invariant in
    let took = c.in-Err.ensures in
    rests_none g.N.PoolName.pool c.self.inside.desk c.take_move.new.self at.seat c.take_move.new.seat is.0.seated.same took.none_outstanding is.0.idle took.events
