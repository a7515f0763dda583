use Rattle.std.proofs.Common.{sym, subst}
use Rattle.funnel_model.specs.declared.claim.Claim.{Claim}
use Rattle.funnel_model.specs.Legal.{MayTake}
use Rattle.commit_desk.proofs.TakenRoom.{may_from, no_room_from, not_full_by_room}
use Rattle.commit_desk.proofs.desk.Desk.take_room.Goals as goal

pub claim_laid-requires-clause-may : goal.claim_laid-requires-clause-may
claim_laid-requires-clause-may c =
    may_from c.args.self.now c.self.inside c.self.invariant.whole c.self.invariant.desk c.self.view_is c.args.seat.now.number c.in-Some.slice c.requires.may.idle c.in-Some.ensures

pub returns-in-Ok-clause-answer : goal.returns-in-Ok-clause-answer
returns-in-Ok-clause-answer c = record {
  answers = (
    c.requires.may.enters,
    subst (λ (k : Claim). MayTake c.args.self.now.pool.limits c.args.self.now.history c.args.seat.now.number k.slice k.column) (sym c.in-Ok.ensures.claim)
        (may_from c.args.self.now c.self.inside c.self.invariant.whole c.self.invariant.desk c.self.view_is c.args.seat.now.number c.in-Some.slice c.requires.may.idle c.in-Some.ensures),
  );
  waits = tt;
}

pub returns-in-Err-clause-answer : goal.returns-in-Err-clause-answer
returns-in-Err-clause-answer c =
    let may = may_from c.args.self.now c.self.inside c.self.invariant.whole c.self.invariant.desk c.self.view_is c.args.seat.now.number c.in-Some.slice c.requires.may.idle c.in-Some.ensures in
    record {
      answers = (c.requires.may.enters, not_full_by_room c.args.self.now c.self.inside c.self.invariant.whole c.self.invariant.desk c.self.view_is c.in-Some.slice may.in_range may.room);
      waits = tt;
    }

pub make_room-requires-clause-may : goal.make_room-requires-clause-may
make_room-requires-clause-may c = record {
  adds = c.requires.may;
  no_room = no_room_from c.args.self.now c.self.inside c.self.invariant.whole c.self.invariant.desk c.self.view_is c.in_default.ensures;
}
