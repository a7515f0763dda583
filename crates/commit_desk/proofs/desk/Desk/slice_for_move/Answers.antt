use Rattle.std.proofs.Common.{ℕ, inl, inr, length, sym, ◌∙◌, subst}
use Rattle.std.proofs.lemmas.Bool.{false≢true}
use Rattle.funnel_model.specs.Legal.{MayTake}
use Rattle.funnel_model.specs.Slices.{claimed}
use Rattle.commit_desk.proofs.Checks.{takes_calls}
use Rattle.commit_desk.proofs.TakenRoom.{may_from, no_room_from}
use Rattle.commit_desk.proofs.desk.Desk.slice_for_move.Goals as goal
use Rattle.commit_desk.proofs.desk.Desk.slice_for_move.Goals.{then-is_spent-via-then-is_spent, then-is_spent-via-else-is_spent+then-not-is_there_still}
use Rattle.commit_desk.proofs.desk.Desk.slice_for_move.Goals.{then-slice-look-via-then-slice-look, then-slice-look-via-else-slice-look+then-not-has_room_to_empty}

pub returns-then-is_spent-clause-answer : goal.returns-then-is_spent-clause-answer
returns-then-is_spent-clause-answer c pass idle =
    elim c.then-is_spent.branch [
      | then-is_spent-via-then-is_spent w ↦ inl (c.is_spent.ensures.spent.0 w.if-is_spent.true)
      | then-is_spent-via-else-is_spent+then-not-is_there_still w ↦ inr (inl (λ there. false≢true (sym w.if-not-is_there_still.true ∙ w.is_there_still.ensures.1 there)))
    ]

pub returns-in_default-clause-answer : goal.returns-in_default-clause-answer
returns-in_default-clause-answer c pass idle = inr (inr (inl (no_room_from c.args.self.now c.self.inside c.self.invariant.whole c.self.invariant.desk c.self.view_is c.in_default.ensures)))

pub returns-then-slice-look-clause-answer : goal.returns-then-slice-look-clause-answer
returns-then-slice-look-clause-answer c pass idle =
    let now = c.args.self.now in
    elim c.then-slice-look.branch [
      | then-slice-look-via-then-slice-look w ↦
          let may = may_from now c.self.inside c.self.invariant.whole c.self.invariant.desk c.self.view_is pass c.in-Some.slice idle c.in-Some.ensures in
          inr (inr (inr (inl (subst (λ k. (column : ℕ) × MayTake now.pool.limits now.history pass k column) w.if-slice-look.true (length (claimed c.in-Some.slice now.history), may)))))
      | then-slice-look-via-else-slice-look+then-not-has_room_to_empty w ↦ inr (inr (inr (inr w.if-not-has_room_to_empty.ensures.room)))
    ]

pub returns-clause-answer : goal.returns-clause-answer
returns-clause-answer c pass idle = record {
  takes_calls = takes_calls c.args.self.now.events_limit c.args.self.now.history c.if-is_spent.ensures.spent.1;
  may = may_from c.args.self.now c.self.inside c.self.invariant.whole c.self.invariant.desk c.self.view_is pass c.in-Some.slice idle c.in-Some.ensures;
  there = c.is_there_still.ensures.0 c.if-not-is_there_still.false;
  other = c.if-slice-look.false;
  room = c.if-not-has_room_to_empty.ensures.room;
}
