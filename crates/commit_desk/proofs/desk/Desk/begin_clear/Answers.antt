use Rattle.std.proofs.Common.{◌≡◌, ℕ, ◌+◌, ◌<◌, [], ◌∷◌, ◌++◌, length, MatchOption, Option, refl, sym, ap, ◌∙◌, subst, arith}
use Rattle.document_store.specs.Slots.{without_slice}
use Rattle.funnel_model.specs.declared.event.Event.TheVariants as event
use Rattle.funnel_model.specs.Legal.{IsAllowed, IsIdle, MayClear, NoneCanClear}
use Rattle.funnel_model.proofs.Histories.{legal-push}
use Rattle.funnel_model.proofs.Progress.{allowed_by}
use Rattle.slice_rule.specs.Pools.{PoolId}
use Rattle.slice_stages.specs.Stages.{with_stage}
use Rattle.slice_stages.specs.declared.stage.Stage.TheVariants as stage
use Rattle.commit_desk.specs.Answers.{IsClearWork, TakesCalls}
use Rattle.commit_desk.specs.Desks.{DeskState, Makes}
use Rattle.commit_desk.specs.Kept.{Books, IsDesk}
use Rattle.commit_desk.proofs.Few.{few-start}
use Rattle.commit_desk.proofs.HandedBack.{handed_by_clear}
use Rattle.commit_desk.proofs.AskedDocuments.{none-asks-cleared}
use Rattle.commit_desk.proofs.Inside.{books_of, left_books}
use Rattle.commit_desk.proofs.Keeping.{out-left}
use Rattle.commit_desk.proofs.KeepingDesks.{keeping-out}
use Rattle.commit_desk.proofs.MadeEvents.{desk_at, made_one, number_is}
use Rattle.commit_desk.proofs.Marks.{clearable_now, desk-moved}
use Rattle.commit_desk.proofs.SliceEvents.{books_after, desk-with, kept-as, kept-clear}
use Rattle.commit_desk.proofs.desk.Desk.begin_clear.Goals as goal
use Rattle.commit_desk.proofs.desk.Desk.begin_clear.Goals.{After-clearable, After-number-pass}

abbrev looked : After-clearable → Books
looked c = let b = books_of c.self.inside c.self.invariant.whole in record b { stages = c.move_mark.new.stages }

-- the desk with the mark moved
desk_now : (c : After-clearable) → IsDesk c.self.inside.home.pool c.self.inside.events_limit c.self.inside.home.history (looked c)
desk_now c =
    let i = c.self.inside in desk-moved i.home.pool i.events_limit i.home.history (books_of i c.self.invariant.whole) c.self.invariant.desk c.move_mark.new.stages c.move_mark.ensures

found : (c : After-clearable) → MatchOption c.clearable.result (NoneCanClear c.self.inside.home.pool.limits c.self.inside.home.history)
    (λ slice. (pass : ℕ) → IsIdle pass c.self.inside.home.history → MayClear c.self.inside.home.pool.limits c.self.inside.home.history pass slice)
found c =
    let i = c.self.inside in
    clearable_now i.home.pool i.events_limit i.home.history (books_of i c.self.invariant.whole) c.self.invariant.desk c.move_mark.new.stages c.move_mark.ensures c.clearable.result c.clearable.ensures

pub invariant_of-self : goal.invariant_of-self
invariant_of-self c =
    record { whole = c.self.invariant.whole; desk = desk_now (goal.at.invariant_of-self c).After-clearable; left = c.self.invariant.left; documents = c.self.invariant.documents }

pub returns-in_default-clause-may : goal.returns-in_default-clause-may
returns-in_default-clause-may c =
    let i = c.self.inside in
    subst (λ (d : DeskState). NoneCanClear d.pool.limits d.history) c.self.view_is
    (subst (λ (o : Option ℕ). MatchOption o (NoneCanClear i.home.pool.limits i.home.history)
    (λ slice. (pass : ℕ) → IsIdle pass i.home.history → MayClear i.home.pool.limits i.home.history pass slice)) c.in_default.is (found c.before))

may_now : (c : After-number-pass) → MayClear c.self.inside.home.pool.limits c.self.inside.home.history c.number-pass.result c.in-Some.slice
may_now c =
    let i = c.self.inside in
    let idle = subst (λ (d : DeskState). IsIdle c.args.seat.now.number d.history) (sym c.self.view_is) c.requires.idle in
    let may : (pass : ℕ) → IsIdle pass i.home.history → MayClear i.home.pool.limits i.home.history pass c.in-Some.slice =
    subst (λ (o : Option ℕ). MatchOption o (NoneCanClear i.home.pool.limits i.home.history)
    (λ slice. (pass : ℕ) → IsIdle pass i.home.history → MayClear i.home.pool.limits i.home.history pass slice)) c.in-Some.is (found c.before.before) in
    may c.number-pass.result (subst (λ n. IsIdle n i.home.history) (sym c.number-pass.ensures.number) idle)

allowed_now : (c : After-number-pass) → IsAllowed c.self.inside.home.pool.limits c.self.inside.home.history (event.Clear c.number-pass.result c.in-Some.slice)
allowed_now c =
    let i = c.self.inside in
    let in' : c.number-pass.result < i.home.pool.limits.passes =
    subst (λ n. n < i.home.pool.limits.passes) (sym c.number-pass.ensures.number)
    (subst (λ (d : DeskState). c.args.seat.now.number < d.pool.limits.passes) (sym c.self.view_is) c.requires.caught_up.in_range) in
    allowed_by i.home.pool.limits i.home.history (event.Clear c.number-pass.result c.in-Some.slice) in' c.self.invariant.desk.none_awaited (may_now c)

pub make_event-self-inside-requires-clause-allowed : goal.make_event-self-inside-requires-clause-allowed
make_event-self-inside-requires-clause-allowed c =
    let i = c.self.inside in
    let same : i.home.pool ≡ c.args.pool.now = ap (λ (d : DeskState). d.pool) c.self.view_is ∙ sym c.requires.pool in
    subst (λ (p : PoolId). IsAllowed p.limits i.home.history (event.Clear c.number-pass.result c.in-Some.slice)) same (allowed_now (goal.at.make_event-self-inside-requires-clause-allowed c).After-number-pass)

pub take_out-slots-requires-clause-in_range : goal.take_out-slots-requires-clause-in_range
take_out-slots-requires-clause-in_range c =
    let in' = (may_now (goal.at.take_out-slots-requires-clause-in_range c).After-number-pass).in_range in
    let slices_are = c.self.invariant.desk.kept.recorded.slices_are in
    let left = c.self.invariant.left.slices in
    omega (arith, in', slices_are, left)

pub take_out-slots-requires-clause-there : goal.take_out-slots-requires-clause-there
take_out-slots-requires-clause-there c =
    let may = may_now (goal.at.take_out-slots-requires-clause-there c).After-number-pass in
    let recorded = c.self.invariant.desk.kept.recorded in
    let in' = may.in_range in
    let slices_are = recorded.slices_are in
    out-left c.self.invariant.whole c.self.inside.records c.in-Some.slice c.self.invariant.left
    ∙ recorded.out c.in-Some.slice (omega (arith, in', slices_are)) ∙ may.can_clear.retired.not_clearing

pub renew-old_layout-requires : goal.renew-old_layout-requires
renew-old_layout-requires c =
    let may = may_now (goal.at.renew-old_layout-requires c).After-number-pass in
    c.self.invariant.desk.kept.layouts_are.every c.in-Some.slice may.in_range

pub invariant_of-self-2 : goal.invariant_of-self-2
invariant_of-self-2 c =
    let i = c.self.inside in
    let e = event.Clear c.number-pass.result c.in-Some.slice in
    let made = c.make_event-self-inside.ensures in
    let home = c.make_event-self-inside.new.home in
    let number = (goal.at.invariant_of-self-2 c).After-number-pass in
    let desk = desk_now (goal.at.invariant_of-self-2 c).After-clearable in
    let before = looked (goal.at.invariant_of-self-2 c).After-clearable in
    let few = few-start i.events_limit i.home.pool.limits.passes i.home.history e
    (subst (λ (d : DeskState). TakesCalls d.events_limit d.history) (sym c.self.view_is) c.requires.takes_calls) in
    let slice = c.in-Some.slice in
    let stages = with_stage c.move_mark.new.stages slice (stage.Clearing c.number-pass.result) in
    let table = without_slice c.self.invariant.whole slice in
    let layouts = c.renew-old_layout.new.self in
    let cleared : Books = record before { layouts = layouts } in
    let desk_then =
    desk-with i.home.pool home.pool i.events_limit i.home.history i.home.history home.history before
    (books_after cleared c.make_event-self-inside.result table c.clear.new.self) e
    made.home.pool made.home.history refl desk
    (kept-as i.home.pool.config i.home.pool.limits i.events_limit (i.home.history ++ e ∷ []) home.history (books_after cleared (length i.home.history + 1) table stages)
    c.make_event-self-inside.result table c.clear.new.self made.home.history (number_is i.home home e c.make_event-self-inside.result made.home made.number) refl c.clear.ensures
    (kept-clear i.home.pool.config i.home.pool.limits i.events_limit i.home.history before desk.kept c.number-pass.result c.in-Some.slice layouts c.renew-old_layout.ensures.cleared
    (allowed_now number) few)) in
    let kept = desk.kept in
    let within : slice < c.self.invariant.whole.slices = let h = kept.recorded.slices_are in let in' = (may_now number).in_range in omega (arith, h, in') in
    keeping-out i.home.pool i.events_limit i.home.history (left_books i) i.leaving c.self.invariant home.pool home.history
    (books_after (record (left_books i) { layouts = layouts }) c.make_event-self-inside.result c.take_out-slots.new.self c.clear.new.self) slice desk_then c.take_out-slots.ensures.table refl within
    (none-asks-cleared i.home.pool.limits i.home.history c.self.invariant.whole i.records kept.legal kept.recorded c.self.invariant.left i.tokens kept.tokens_are c.number-pass.result slice (allowed_now number))

pub returns-clause-may : goal.returns-clause-may
returns-clause-may c =
    let number = (goal.at.returns-clause-may c).After-number-pass in
    subst (λ n. MayClear c.args.self.now.pool.limits c.args.self.now.history n c.in-Some.slice) c.number-pass.ensures.number
    (subst (λ (d : DeskState). MayClear d.pool.limits d.history c.number-pass.result c.in-Some.slice) c.self.view_is (may_now number))

pub returns-clause-work : goal.returns-clause-work
returns-clause-work c =
    let i = c.self.inside in
    let are = c.self.invariant.desk.kept.layouts_are in
    subst (λ (d : DeskState). IsClearWork d.pool d.history (record { job = record { slice = c.in-Some.slice }; slots = c.take_out-slots.result; old_layout = c.renew-old_layout.result })) c.self.view_is
    (record {
      slots = c.take_out-slots.ensures.columns ∙ c.self.invariant.left.columns ∙ c.self.invariant.desk.kept.recorded.columns_are;
      old = handed_by_clear i.home.pool i.home.history i.layouts are c.in-Some.slice c.renew-old_layout.result c.renew-old_layout.ensures.old;
    })

pub returns-clause-made : goal.returns-clause-made
returns-clause-made c =
    let i = c.self.inside in
    let e = event.Clear c.number-pass.result c.in-Some.slice in
    let made = c.make_event-self-inside.ensures in
    let home = c.make_event-self-inside.new.home in
    let seat = c.make_event-self-inside.new.seat in
    let number = (goal.at.returns-clause-made c).After-number-pass in
    subst (λ n. Makes (event.Clear n c.in-Some.slice ∷ []) c.args.self.now (desk_at home i.events_limit) c.args.seat.now seat) c.number-pass.ensures.number
    (made_one c.args.self.now i.home home i.events_limit c.args.seat.now seat e c.self.view_is c.requires.caught_up made.home
    (legal-push i.home.pool.limits i.home.history e c.self.invariant.desk.kept.legal (allowed_now number)) made.seat)
