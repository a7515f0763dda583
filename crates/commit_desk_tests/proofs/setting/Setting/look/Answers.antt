use Rattle.std.proofs.Common.{ℕ, List, Option, IfSome, subst}
use Rattle.commit_desk.proofs.CallEnds.{rests_none}
use Rattle.commit_desk.specs.declared.look.Look.{Look}
use Rattle.commit_desk.specs.Moving.{HoldsLook}
use Rattle.commit_desk_tests.specs.Tested.{IsDraft}
use Rattle.commit_desk_tests.proofs.setting.Setting.look.Goals as goal

pub invariant_of-result : goal.invariant_of-result
invariant_of-result g c =
    let seat = c.caller.invariant in
    let looked = c.look.ensures in
    rests_none g.N.PoolName.pool c.self.inside.desk c.look.new.self c.caller.inside.seat c.look.new.seat seat.seated.same looked.none_outstanding seat.idle looked.events

pub invariant_of-result-in-Ok : goal.invariant_of-result-in-Ok
invariant_of-result-in-Ok g c =
    let seat = c.caller.invariant in
    let looked = c.look.ensures in
    let made = c.in-Ok.ensures in (
      rests_none g.N.PoolName.pool c.self.inside.desk c.look.new.self c.caller.inside.seat c.look.new.seat seat.seated.same looked.none_outstanding seat.idle looked.events,
      subst (λ (o : Option Look). IfSome o (HoldsLook c.look.new.seat)) c.in-Ok-Some.field-0-is c.in-Ok-Some.ensures.look,
      subst (λ (set : List (List ℕ)). IsDraft set c.in-Ok.bits) c.words.ensures.words (record { no_bits = made.empty; room = made.room }),
    )

pub invariant_of-result-in-Err : goal.invariant_of-result-in-Err
invariant_of-result-in-Err g c =
    let seat = c.caller.invariant in
    let looked = c.look.ensures in
    rests_none g.N.PoolName.pool c.self.inside.desk c.look.new.self c.caller.inside.seat c.look.new.seat seat.seated.same looked.none_outstanding seat.idle looked.events
