use Rattle.std.proofs.Common.{◌≡◌, ℕ, ◌+◌, ◌<◌, [], ◌∷◌, ◌++◌, length, inl, None, refl, sym, ap, ◌∙◌, subst}
use Rattle.document_store.specs.Slots.{is_over_in, IsColumn, with_slot}
use Rattle.document_store.specs.declared.column.Column.TheVariants as became
use Rattle.funnel_model.specs.declared.event.Event.TheVariants as event
use Rattle.funnel_model.specs.declared.claim.Claim.{Claim}
use Rattle.funnel_model.specs.Legal.{IsAllowed, MayTake}
use Rattle.funnel_model.specs.Slices.{claimed}
use Rattle.funnel_model.proofs.Claims.{take_within}
use Rattle.funnel_model.proofs.Histories.{legal-push}
use Rattle.funnel_model.proofs.Progress.{allowed_by}
use Rattle.slice_rule.specs.Pools.{PoolId}
use Rattle.slice_stages.specs.Stages.{HasLeft, stage_of, with_stage}
use Rattle.slice_stages.specs.declared.stage.Stage.TheVariants as stage
use Rattle.commit_desk.specs.Answers.{TakesCalls}
use Rattle.commit_desk.specs.Desks.{DeskState, Makes}
use Rattle.commit_desk.proofs.Few.{few-start}
use Rattle.commit_desk.proofs.Inside.{books_of, left_books}
use Rattle.commit_desk.proofs.Keeping.{column-left, out-left, same-column}
use Rattle.commit_desk.proofs.KeepingDesks.{keeping-slot}
use Rattle.commit_desk.proofs.MadeEvents.{desk_at, made_one, number_is, unwritten}
use Rattle.commit_desk.proofs.RecordFacts.{is_column, taken_is_free, taken_is_there}
use Rattle.commit_desk.proofs.SliceEvents.{books_after, desk-with, kept-as, kept-take}
use Rattle.commit_desk.proofs.StageReadings.{claimed_count, in_use_stage, room_has_left, used_slice}
use Rattle.commit_desk.proofs.desk.Desk.claim.Goals as goal
use Rattle.commit_desk.proofs.desk.Desk.claim.Goals.{After-self, After-claim-column}

may_now : (c : After-self) → MayTake c.self.inside.home.pool.limits c.self.inside.home.history c.number-pass.result c.args.slice (length (claimed c.args.slice c.self.inside.home.history))
may_now c =
    let slice = c.args.slice in
    subst (λ n. MayTake c.self.inside.home.pool.limits c.self.inside.home.history n slice (length (claimed slice c.self.inside.home.history))) (sym c.number-pass.ensures.number)
    (subst (λ (d : DeskState). MayTake d.pool.limits d.history c.args.seat.now.number slice (length (claimed slice d.history))) (sym c.self.view_is) c.requires.may)

-- the slice is in use, with so many columns claimed and so many over
abbrev found : (c : After-self) → (first : ℕ) × (over : ℕ) × (stage_of c.self.inside.stages c.args.slice ≡ stage.InUse first over)
found c =
    let i = c.self.inside in
    let kept = c.self.invariant.desk.kept in
    let may = may_now c in
    in_use_stage i.home.pool.limits i.home.history c.self.invariant.whole kept.legal kept.recorded i.stages kept.staged.each c.args.slice may.in_range may.room.in_use

pub claim-column-requires-clause-left : goal.claim-column-requires-clause-left
claim-column-requires-clause-left c =
    let i = c.self.inside in
    let kept = c.self.invariant.desk.kept in
    let may = may_now c.before in
    subst (λ n. HasLeft n (stage_of i.stages c.args.slice)) (sym kept.staged.columns_are)
    (room_has_left i.home.pool.limits i.home.history c.self.invariant.whole kept.legal kept.recorded i.stages kept.staged.each c.args.slice may.in_range may.room)

-- the column that is claimed is the first of those that are left
told : (c : After-claim-column) → (stage_of c.self.inside.stages c.args.slice ≡ stage.InUse c.claim-column.result (found c.before.before).1)
    × (c.claim-column.new.self ≡ with_stage c.self.inside.stages c.args.slice (stage.InUse (c.claim-column.result + 1) (found c.before.before).1))
    × (c.claim-column.result ≡ length (claimed c.args.slice c.self.inside.home.history))
told c =
    let i = c.self.inside in
    let kept = c.self.invariant.desk.kept in
    let may = may_now c.before.before in
    let slice = c.args.slice in
    let f = found c.before.before in
    let t = c.claim-column.ensures f.0 f.1 f.2 in
    let used = used_slice i.home.pool.limits i.home.history c.self.invariant.whole kept.legal kept.recorded i.stages kept.staged.each slice f.0 f.1 may.in_range f.2 in (
      f.2 ∙ ap (λ n. stage.InUse n f.1) (sym t.0),
      t.1 ∙ ap (λ n. with_stage i.stages slice (stage.InUse (n + 1) f.1)) (sym t.0),
      t.0 ∙ sym (claimed_count i.home.pool.limits.columns i.home.history c.self.invariant.whole slice f.0 f.1 used),
    )

allowed_now : (c : After-claim-column) → IsAllowed c.self.inside.home.pool.limits c.self.inside.home.history (event.Take c.number-pass.result c.args.slice c.claim-column.result)
allowed_now c =
    let i = c.self.inside in
    let may = may_now c.before.before in
    let in' : c.number-pass.result < i.home.pool.limits.passes =
    subst (λ n. n < i.home.pool.limits.passes) (sym c.number-pass.ensures.number)
    (subst (λ (d : DeskState). c.args.seat.now.number < d.pool.limits.passes) (sym c.self.view_is) c.requires.caught_up.in_range) in
    allowed_by i.home.pool.limits i.home.history (event.Take c.number-pass.result c.args.slice c.claim-column.result) in' c.self.invariant.desk.none_awaited
    (inl (record { idle = may.idle; in_range = may.in_range; room = may.room; lowest = may.lowest; next = (told c).2 }))

pub make_event-self-inside-requires-clause-allowed : goal.make_event-self-inside-requires-clause-allowed
make_event-self-inside-requires-clause-allowed c =
    let i = c.self.inside in
    let same : i.home.pool ≡ c.args.pool.now = ap (λ (d : DeskState). d.pool) c.self.view_is ∙ sym c.requires.pool in
    subst (λ (p : PoolId). IsAllowed p.limits i.home.history (event.Take c.number-pass.result c.args.slice c.claim-column.result)) same (allowed_now c.before.before.before)

column_now : (c : After-claim-column) → IsColumn c.self.invariant.whole c.args.slice c.claim-column.result
column_now c =
    let i = c.self.inside in
    let kept = c.self.invariant.desk.kept in
    is_column i.home.pool.limits i.home.history c.self.invariant.whole kept.legal kept.recorded c.args.slice c.claim-column.result (may_now c.before.before).in_range
    (take_within i.home.pool.limits i.home.history c.number-pass.result c.args.slice c.claim-column.result kept.legal (allowed_now c))

pub claim-requires-clause-in_range : goal.claim-requires-clause-in_range
claim-requires-clause-in_range c =
    column-left c.self.invariant.whole c.self.inside.records c.args.slice c.claim-column.result c.self.invariant.left (column_now c.before.before.before.before.before.before)

pub claim-requires-clause-there : goal.claim-requires-clause-there
claim-requires-clause-there c =
    let i = c.self.inside in
    let kept = c.self.invariant.desk.kept in
    let then = c.before.before.before.before.before.before in
    out-left c.self.invariant.whole i.records c.args.slice c.self.invariant.left
    ∙ taken_is_there i.home.pool.limits i.home.history c.self.invariant.whole kept.legal kept.recorded c.number-pass.result c.args.slice c.claim-column.result (allowed_now then) (column_now then)

pub claim-requires-clause-free : goal.claim-requires-clause-free
claim-requires-clause-free c =
    let i = c.self.inside in
    let kept = c.self.invariant.desk.kept in
    let then = c.before.before.before.before.before.before in
    same-column c.self.invariant.whole i.records c.args.slice c.claim-column.result c.self.invariant.left (column_now then)
    ∙ taken_is_free i.home.pool.limits i.home.history c.self.invariant.whole kept.legal kept.recorded c.number-pass.result c.args.slice c.claim-column.result (allowed_now then) (column_now then)

pub invariant_of-self : goal.invariant_of-self
invariant_of-self c =
    let i = c.self.inside in
    let pass = c.number-pass.result in
    let slice = c.args.slice in
    let column = c.claim-column.result in
    let e = event.Take pass slice column in
    let made = c.make_event-self-inside.ensures in
    let home = c.make_event-self-inside.new.home in
    let then = c.before.before.before.before.before.before.before.before in
    let t = told then in
    let over = (found then.before.before).1 in
    let before = books_of i c.self.invariant.whole in
    let few = few-start i.events_limit i.home.pool.limits.passes i.home.history e
    (subst (λ (d : DeskState). TakesCalls d.events_limit d.history) (sym c.self.view_is) c.requires.takes_calls) in
    let table = with_slot c.self.invariant.whole slice column (record { column = became.Pending pass; doc = None }) in
    let stages = with_stage i.stages slice (stage.InUse (column + 1) over) in
    let kept = c.self.invariant.desk.kept in
    let desk =
    desk-with i.home.pool home.pool i.events_limit i.home.history i.home.history home.history before (books_after before c.make_event-self-inside.result table c.claim-column.new.self) e
    made.home.pool made.home.history refl c.self.invariant.desk
    (kept-as i.home.pool.config i.home.pool.limits i.events_limit (i.home.history ++ e ∷ []) home.history (books_after before (length i.home.history + 1) table stages)
    c.make_event-self-inside.result table c.claim-column.new.self made.home.history (number_is i.home home e c.make_event-self-inside.result made.home made.number) refl t.1
    (kept-take i.home.pool.config i.home.pool.limits i.events_limit i.home.history before c.self.invariant.desk.kept pass slice column over (allowed_now then) few t.0)) in
    keeping-slot i.home.pool i.events_limit i.home.history (left_books i) i.leaving c.self.invariant home.pool home.history
    (books_after (left_books i) c.make_event-self-inside.result c.claim.new.self c.claim-column.new.self) slice column (record { column = became.Pending pass; doc = None }) desk c.claim.ensures refl (column_now then)
    (ap is_over_in (taken_is_free i.home.pool.limits i.home.history c.self.invariant.whole kept.legal kept.recorded pass slice column (allowed_now then) (column_now then)))
    (λ since until over. cc over.1) (λ doc over has. cc has)

pub returns-clause-made : goal.returns-clause-made
returns-clause-made c =
    let i = c.self.inside in
    let e = event.Take c.number-pass.result c.args.slice c.claim-column.result in
    let made = c.make_event-self-inside.ensures in
    let home = c.make_event-self-inside.new.home in
    let seat = c.make_event-self-inside.new.seat in
    let then = c.before.before.before.before.before.before.before.before in
    subst (λ n. Makes (event.Take n c.args.slice c.claim-column.result ∷ []) c.args.self.now (desk_at home i.events_limit) c.args.seat.now seat) c.number-pass.ensures.number
    (made_one c.args.self.now i.home home i.events_limit c.args.seat.now seat e c.self.view_is c.requires.caught_up made.home
    (legal-push i.home.pool.limits i.home.history e c.self.invariant.desk.kept.legal (allowed_now then)) made.seat)

abbrev column_of : ℕ → ℕ → Claim
column_of slice column = record { slice = slice; column = column }

pub returns-clause-claim : goal.returns-clause-claim
returns-clause-claim c =
    let then = c.before.before.before.before.before.before.before.before in
    ap (column_of c.args.slice) ((told then).2 ∙ ap (λ (d : DeskState). length (claimed c.args.slice d.history)) c.self.view_is)

pub returns-clause-nothing_yet : goal.returns-clause-nothing_yet
returns-clause-nothing_yet c =
    let made = c.make_event-self-inside.ensures in
    let next = c.make_event-self-inside.new.seat in
    let home = c.make_event-self-inside.new.home in
    unwritten next c.args.seat.now.front (event.Take c.number-pass.result c.args.slice c.claim-column.result) c.make_event-self-inside.result home.history
    (c.number-pass.ensures.number ∙ sym made.seat.number) made.seat.front (returns-clause-made c).front made.number made.nothing_yet
