use Rattle.std.proofs.Common.{◌≡◌, ℕ, true, false, inl, inr, refl, sym, ◌∙◌, subst}
use Rattle.std.specs.Option.{is_some}
use Rattle.funnel_model.specs.Blocks.{AreBlocks}
use Rattle.funnel_model.specs.Legal.{IsFull, IsRefused, MayClear}
use Rattle.commit_desk.specs.Answers.{IsBeingCleared, NoneIsCleared, call_asked}
use Rattle.commit_desk.specs.Desks.{DeskState}
use Rattle.commit_desk.specs.Layouts.{HandsBackOld}
use Rattle.commit_desk.proofs.Checks.{refused_full}
use Rattle.commit_desk.proofs.LayoutsKept.{when_none, when_some}
use Rattle.commit_desk.proofs.TakenRoom.{full_from, not_full_by_clear}
use Rattle.commit_desk.proofs.desk.Desk.make_room.Goals as goal
use Rattle.commit_desk.proofs.desk.Desk.make_room.Goals.{After-clearable, then-not-last+in_default, else-not-last}

-- where a slice can be cleared the pass may clear one
may_clear : (c : After-clearable) → is_some c.clearable.result ≡ true → (slice : ℕ) × MayClear c.args.self.now.pool.limits c.args.self.now.history c.args.seat.now.number slice
may_clear c some =
    let found = when_some _ _ c.clearable.result c.clearable.ensures.answer some in
    (found.0, found.1 c.args.seat.now.number c.requires.may.adds.idle)

-- and else the engine is full
full : (c : After-clearable) → is_some c.clearable.result ≡ false → IsFull c.args.self.now.pool.limits c.args.self.now.history
full c none =
    full_from c.args.self.now c.self.inside c.self.invariant.whole c.self.invariant.desk c.self.view_is c.requires.may.no_room (when_none _ _ c.clearable.result c.clearable.ensures.answer none)

pub clear_laid-requires-clause-may : goal.clear_laid-requires-clause-may
clear_laid-requires-clause-may c =
    subst (λ (d : DeskState). (slice : ℕ) × MayClear d.pool.limits d.history c.args.seat.now.number slice) (sym c.clearable.ensures.same)
    (may_clear (goal.at.clear_laid-requires-clause-may c).After-clearable (sym c.is_some.ensures ∙ c.if-is_some.true))

pub returns-in-Ok-clause-answer : goal.returns-in-Ok-clause-answer
returns-in-Ok-clause-answer c = record {
  answers = (
    c.requires.may.adds.enters,
    c.requires.may.no_room,
    subst (λ (d : DeskState). MayClear d.pool.limits d.history c.args.seat.now.number c.in-Ok.work.job.slice) c.clearable.ensures.same c.in-Ok.ensures.work.0,
    subst (λ (d : DeskState). c.in-Ok.work.slots ≡ d.pool.limits.columns) c.clearable.ensures.same c.in-Ok.ensures.work.1.slots,
  );
  waits = tt;
}

pub returns-in-Ok-clause-handed : goal.returns-in-Ok-clause-handed
returns-in-Ok-clause-handed c =
    let work = c.in-Ok.work in
    record {
      prepared = c.in-Ok.ensures.laid;
      old = subst (λ (d : DeskState). HandsBackOld d.pool d.history work.job.slice work.old_layout) c.clearable.ensures.same c.in-Ok.ensures.work.1.old;
      room = refl;
    }

pub returns-in-Err-clause-answer : goal.returns-in-Err-clause-answer
returns-in-Err-clause-answer c =
    let found = may_clear (goal.at.returns-in-Err-clause-answer c).After-clearable (sym c.is_some.ensures ∙ c.if-is_some.true) in
    record {
      answers = (c.requires.may.adds.enters, not_full_by_clear c.args.self.now.pool.limits c.args.self.now.history found.0 found.1.in_range found.1.can_clear);
      waits = tt;
    }

pub blocks-blocks-requires-clause-full : goal.blocks-blocks-requires-clause-full
blocks-blocks-requires-clause-full c =
    subst (λ (d : DeskState). IsFull d.pool.limits d.history) (sym c.clearable.ensures.same)
    (full (goal.at.blocks-blocks-requires-clause-full c).After-clearable (sym c.is_some.ensures ∙ c.if-is_some.false))

pub refuse_add-requires-clause-refused : goal.refuse_add-requires-clause-refused
refuse_add-requires-clause-refused c =
    subst (λ (d : DeskState). IsRefused d.pool.limits d.history (call_asked c.args.replaces c.args.doc.now.id c.args.doc.now.text)) (sym c.clearable.ensures.same)
    (refused_full c.args.self.now.pool.limits c.args.self.now.history c.args.replaces c.args.doc.now.id c.args.doc.now.text
    (full (goal.at.refuse_add-requires-clause-refused c).After-clearable (sym c.is_some.ensures ∙ c.if-is_some.false)))

pub returns-clause-answer : goal.returns-clause-answer
returns-clause-answer c = record {
  answers = (
    c.requires.may.adds.enters,
    full (goal.at.returns-clause-answer c).After-clearable (sym c.is_some.ensures ∙ c.if-is_some.false),
    subst (λ (d : DeskState). AreBlocks d.pool.limits d.history c.blocks-blocks.result) c.clearable.ensures.same c.blocks-blocks.ensures,
  );
  waits = elim c.if-not-last.branch [
    | then-not-last+in_default w ↦ inr (subst (λ (d : DeskState). NoneIsCleared d.pool.limits d.history) c.clearable.ensures.same w.in_default.ensures)
    | else-not-last w ↦ inl w.if-not-last.false
  ];
}

pub returns-in-Some-clause-answer : goal.returns-in-Some-clause-answer
returns-in-Some-clause-answer c = record {
  answers = (
    c.requires.may.adds.enters,
    full (goal.at.returns-in-Some-clause-answer c).After-clearable (sym c.is_some.ensures ∙ c.if-is_some.false),
    subst (λ (d : DeskState). IsBeingCleared d.pool.limits d.history c.in-Some.slice) c.clearable.ensures.same c.in-Some.ensures,
  );
  waits = c.if-not-last.true;
}
