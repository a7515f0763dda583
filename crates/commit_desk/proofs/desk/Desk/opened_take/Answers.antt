use Rattle.std.proofs.Common.{◌≡◌, ℕ, ◌+◌, ◌<◌, false, inl, inr, None, [], ◌∷◌, ◌++◌, length, Some, refl, sym, ap, ◌∙◌, subst, arith}
use Rattle.funnel_model.specs.declared.event.Event.TheVariants as event
use Rattle.funnel_model.specs.declared.claim.Claim.{Claim}
use Rattle.funnel_model.specs.Legal.{IsAllowed}
use Rattle.slice_rule.specs.Pools.{PoolId}
use Rattle.commit_desk.specs.Desks.{Makes}
use Rattle.commit_desk.proofs.CaughtUp.{zero_caught}
use Rattle.commit_desk.proofs.Inside.{books_of}
use Rattle.commit_desk.proofs.Keeping.{column-left, kept-back, kept-slot, left-back, left-slot, out-left, over-left, same-column, size-left}
use Rattle.commit_desk.proofs.JobTurns.{JobTurn, job_turn, opened_allowed, opened_kept, opened_made, pool_now, slice_clearing, slice_in_range, slice_out, slots_back, some_column}
use Rattle.commit_desk.proofs.MadeEvents.{caught_after, desk_at, made_one, number_is, unwritten}
use Rattle.commit_desk.proofs.SliceEvents.{books_after, desk-with, kept-as, kept-take}
use Rattle.commit_desk.proofs.TakenRoom.{laid_by_reuse}
use Rattle.commit_desk.proofs.Turns.{makes_later, makes_more}
use Rattle.std.proofs.lemmas.List.{get_or-set_same}
use Rattle.std.specs.Prelude.{IfSome}
use Rattle.document_store.specs.Slots.{IsColumn, Table, is_over, is_over_in, slot_at, with_slice, with_slot}
use Rattle.document_store.specs.declared.slots.Slot.{Slot}
use Rattle.document_store.specs.declared.column.Column.TheVariants as became
use Rattle.funnel_model.specs.History.{last_by}
use Rattle.funnel_model.specs.Legal.{IsLegal, awaited}
use Rattle.funnel_model.proofs.Claims.{take_within}
use Rattle.funnel_model.proofs.Histories.{legal-push}
use Rattle.funnel_model.proofs.NextEvents.{awaited-push}
use Rattle.funnel_model.proofs.Spans.{last_by-own}
use Rattle.slice_stages.specs.Stages.{HasLeft, StageTable, empty_stage, stage_of, with_stage}
use Rattle.slice_stages.specs.declared.stage.Stage.TheVariants as stage
use Rattle.commit_desk.specs.Kept.{Books, AreBooksOf}
use Rattle.commit_desk.specs.Leaving.{AreKept, IsLeftOf}
use Rattle.commit_desk.proofs.Few.{few-next}
use Rattle.commit_desk.proofs.RecordFacts.{is_column, taken_is_free, taken_is_there}
use Rattle.commit_desk.proofs.desk.Desk.opened_take.Goals as goal
use Rattle.commit_desk.proofs.desk.Desk.opened_take.Goals.{After-number-pass, After-open, After-claim-column}

abbrev column_of : ℕ → ℕ → Claim
column_of slice column = record { slice = slice; column = column }

-- the pass caught up
turn_now : (c : After-number-pass) →
    JobTurn c.args.self.now c.self.inside.events_limit c.catch_up.new.home (books_of c.self.inside c.self.invariant.whole) c.args.seat.now c.catch_up.new.seat c.number-pass.result c.args.job.slice
turn_now c =
    let i = c.self.inside in
    let up = c.catch_up.ensures in
    job_turn c.args.pool.now c.args.self.now i.events_limit i.home c.catch_up.new.home (books_of i c.self.invariant.whole) c.args.seat.now c.catch_up.new.seat c.number-pass.result c.args.job c.requires.pool
    c.requires.seat c.requires.cleared.holds c.self.view_is c.self.invariant.desk up.home up.seat up.front up.none_since up.none_outstanding up.in_range c.number-pass.ensures.number

allowed_now : (c : After-number-pass) → IsAllowed c.catch_up.new.home.pool.limits c.catch_up.new.home.history (event.Opened c.number-pass.result c.args.job.slice false)
allowed_now c = opened_allowed c.args.self.now c.self.inside.events_limit c.catch_up.new.home (books_of c.self.inside c.self.invariant.whole) c.args.seat.now c.catch_up.new.seat c.number-pass.result c.args.job.slice (turn_now c) false

pub make_event-self-inside-requires-clause-allowed : goal.make_event-self-inside-requires-clause-allowed
make_event-self-inside-requires-clause-allowed c =
    let number = c.before.before.before in
    subst (λ (p : PoolId). IsAllowed p.limits c.catch_up.new.home.history (event.Opened c.number-pass.result c.args.job.slice false))
    (pool_now c.args.self.now c.self.inside.events_limit c.catch_up.new.home (books_of c.self.inside c.self.invariant.whole) c.args.seat.now c.catch_up.new.seat c.number-pass.result c.args.job.slice (turn_now number) c.args.pool.now c.requires.pool) (allowed_now number)

pub make_event-self-inside-requires-clause-ready : goal.make_event-self-inside-requires-clause-ready
make_event-self-inside-requires-clause-ready c =
    let up = c.catch_up.ensures in
    zero_caught c.args.pool.now c.args.self.now.pool c.args.seat.now c.catch_up.new.seat c.number-pass.result c.args.job.slice c.requires.pool up.seat up.none_since c.number-pass.ensures.number c.requires.cleared.zeros

in_range_now : (c : After-number-pass) → c.args.job.slice < c.catch_up.new.home.pool.limits.slices
in_range_now c = slice_in_range c.args.self.now c.self.inside.events_limit c.catch_up.new.home (books_of c.self.inside c.self.invariant.whole) c.args.seat.now c.catch_up.new.seat c.number-pass.result c.args.job.slice (turn_now c)

pub put_back-requires-clause-in_range : goal.put_back-requires-clause-in_range
put_back-requires-clause-in_range c =
    let number = c.before.before.before.before.before in
    let in' = in_range_now number in
    let slices_are = (turn_now number).desk.kept.recorded.slices_are in
    let left = c.self.invariant.left.slices in
    omega arith

pub put_back-requires-clause-out : goal.put_back-requires-clause-out
put_back-requires-clause-out c =
    out-left c.self.invariant.whole c.self.inside.records c.args.job.slice c.self.invariant.left
    ∙ slice_out c.args.self.now c.self.inside.events_limit c.catch_up.new.home (books_of c.self.inside c.self.invariant.whole) c.args.seat.now c.catch_up.new.seat c.number-pass.result c.args.job.slice (turn_now c.before.before.before.before.before)

pub put_back-requires-clause-columns : goal.put_back-requires-clause-columns
put_back-requires-clause-columns c = slots_back c.args.self.now c.self.inside.events_limit c.catch_up.new.home (books_of c.self.inside c.self.invariant.whole) c.args.seat.now c.catch_up.new.seat c.number-pass.result c.args.job.slice (turn_now c.before.before.before.before.before) c.args.slots c.requires.slots
    ∙ sym c.self.invariant.left.columns

pub open-requires-clause-in_range : goal.open-requires-clause-in_range
open-requires-clause-in_range c =
    let number = c.before.before.before.before.before.before.before in
    let in' = in_range_now number in
    let count = (turn_now number).desk.kept.staged.count in
    omega arith

pub open-requires-clause-clearing : goal.open-requires-clause-clearing
open-requires-clause-clearing c = slice_clearing c.args.self.now c.self.inside.events_limit c.catch_up.new.home (books_of c.self.inside c.self.invariant.whole) c.args.seat.now c.catch_up.new.seat c.number-pass.result c.args.job.slice (turn_now c.before.before.before.before.before.before.before)

-- the whole records, with the slice's slots
abbrev table_opened : After-open → Table
table_opened c = with_slice c.self.invariant.whole c.args.job.slice

abbrev books_opened : After-open → Books
books_opened c = books_after (books_of c.self.inside c.self.invariant.whole) (length c.catch_up.new.home.history + 1) (table_opened c) c.open.new.self

-- what is left of them
left_opened : (c : After-open) → IsLeftOf (table_opened c) c.put_back.new.self
left_opened c =
    subst (IsLeftOf (table_opened c)) (sym c.put_back.ensures) (left-back c.self.invariant.whole c.self.inside.records c.self.invariant.left c.self.invariant.desk.kept.recorded.size c.args.job.slice)

-- what is kept after the slice is opened
kept_opened : (c : After-open) → AreBooksOf c.catch_up.new.home.pool.config c.catch_up.new.home.pool.limits c.self.inside.events_limit c.make_event-self-inside.new.home.history (books_opened c)
kept_opened c =
    opened_kept c.args.self.now c.self.inside.events_limit c.catch_up.new.home (books_of c.self.inside c.self.invariant.whole) c.args.seat.now c.catch_up.new.seat c.number-pass.result c.args.job.slice (turn_now c.before.before.before.before.before.before.before.before) false c.make_event-self-inside.new.home
    (length c.catch_up.new.home.history + 1) (table_opened c) c.open.new.self c.make_event-self-inside.ensures.home refl refl c.open.ensures

pub claim-column-requires-clause-in_range : goal.claim-column-requires-clause-in_range
claim-column-requires-clause-in_range c =
    let in' = in_range_now c.before.before.before.before.before.before.before.before.before in
    let count = (kept_opened c.before).staged.count in
    omega arith

-- no column of the slice is claimed
stage_now : (c : After-open) → stage_of c.open.new.self c.args.job.slice ≡ stage.InUse 0 0
stage_now c =
    let i = c.self.inside in
    let number = c.before.before.before.before.before.before.before.before in
    let in' = in_range_now number in
    let count = (turn_now number).desk.kept.staged.count in
    ap (λ (s : StageTable). stage_of s c.args.job.slice) c.open.ensures ∙ get_or-set_same i.stages.stages c.args.job.slice empty_stage empty_stage (omega arith)

columns_now : (c : After-open) → 0 < c.catch_up.new.home.pool.limits.columns
columns_now c =
    let i = c.self.inside in
    let caught = c.catch_up.new.home in
    let number = c.before.before.before.before.before.before.before.before in
    some_column caught.pool i.events_limit caught.history (books_of i c.self.invariant.whole) (turn_now number).desk

pub claim-column-requires-clause-left : goal.claim-column-requires-clause-left
claim-column-requires-clause-left c =
    subst (HasLeft c.open.new.self.columns) (sym (stage_now c.before)) (subst (λ n. 0 < n) (sym (kept_opened c.before).staged.columns_are) (columns_now c.before))

-- so its first is claimed
told : (c : After-claim-column) → (c.claim-column.result ≡ 0) × (c.claim-column.new.self ≡ with_stage c.open.new.self c.args.job.slice (stage.InUse (c.claim-column.result + 1) 0))
told c =
    let t = c.claim-column.ensures 0 0 (stage_now c.before.before) in
    (t.0, t.1 ∙ ap (λ n. with_stage c.open.new.self c.args.job.slice (stage.InUse (n + 1) 0)) (sym t.0))

last_opened : (c : After-claim-column) → last_by c.number-pass.result c.make_event-self-inside.new.home.history ≡ Some (event.Opened c.number-pass.result c.args.job.slice false)
last_opened c =
    let e = event.Opened c.number-pass.result c.args.job.slice false in
    ap (last_by c.number-pass.result) c.make_event-self-inside.ensures.home.history ∙ last_by-own c.number-pass.result c.catch_up.new.home.history e refl

take_allowed : (c : After-claim-column) → IsAllowed c.catch_up.new.home.pool.limits c.make_event-self-inside.new.home.history (event.Take c.number-pass.result c.args.job.slice c.claim-column.result)
take_allowed c =
    let number = c.before.before.before.before.before.before.before.before.before.before in
    let pass = c.number-pass.result in
    let slice = c.args.job.slice in
    let caught = c.catch_up.new.home in
    let home = c.make_event-self-inside.new.home in
    let first = (told c).0 in
    let awaits : awaited home.history ≡ Some (event.Take pass slice 0) = ap awaited c.make_event-self-inside.ensures.home.history ∙ awaited-push caught.history (event.Opened pass slice false) in
    record {
      pass = (allowed_now number).pass;
      at_once = subst (λ o. IfSome o (λ next. event.Take pass slice c.claim-column.result ≡ next)) (sym awaits) (ap (event.Take pass slice) first);
      rule = inr (record { opened = last_opened c; first = first; in_range = subst (λ n. n < caught.pool.limits.columns) (sym first) (columns_now c.before.before) });
    }

pub make_event-self-inside-requires-2-clause-allowed : goal.make_event-self-inside-requires-2-clause-allowed
make_event-self-inside-requires-2-clause-allowed c =
    let then = c.before.before.before in
    subst (λ (p : PoolId). IsAllowed p.limits c.make_event-self-inside.new.home.history (event.Take c.number-pass.result c.args.job.slice c.claim-column.result))
    (pool_now c.args.self.now c.self.inside.events_limit c.catch_up.new.home (books_of c.self.inside c.self.invariant.whole) c.args.seat.now c.catch_up.new.seat c.number-pass.result c.args.job.slice (turn_now then.before.before.before.before.before.before.before.before.before.before) c.args.pool.now c.requires.pool) (take_allowed then)

column_now : (c : After-claim-column) → IsColumn (table_opened c.before.before) c.args.job.slice c.claim-column.result
column_now c =
    let home = c.make_event-self-inside.new.home in
    let limits = c.catch_up.new.home.pool.limits in
    let kept = kept_opened c.before.before in
    is_column limits home.history (table_opened c.before.before) kept.legal kept.recorded c.args.job.slice c.claim-column.result (in_range_now c.before.before.before.before.before.before.before.before.before.before)
    (take_within limits home.history c.number-pass.result c.args.job.slice c.claim-column.result kept.legal (take_allowed c))

pub claim-requires-clause-in_range : goal.claim-requires-clause-in_range
claim-requires-clause-in_range c =
    let then = c.before.before.before.before.before.before in
    column-left (table_opened then.before.before) c.put_back.new.self c.args.job.slice c.claim-column.result (left_opened then.before.before) (column_now then)

pub claim-requires-clause-there : goal.claim-requires-clause-there
claim-requires-clause-there c =
    let then = c.before.before.before.before.before.before in
    let kept = kept_opened then.before.before in
    out-left (table_opened then.before.before) c.put_back.new.self c.args.job.slice (left_opened then.before.before)
    ∙ taken_is_there c.catch_up.new.home.pool.limits c.make_event-self-inside.new.home.history (table_opened then.before.before) kept.legal kept.recorded c.number-pass.result c.args.job.slice c.claim-column.result
    (take_allowed then) (column_now then)

pub claim-requires-clause-free : goal.claim-requires-clause-free
claim-requires-clause-free c =
    let then = c.before.before.before.before.before.before in
    let kept = kept_opened then.before.before in
    same-column (table_opened then.before.before) c.put_back.new.self c.args.job.slice c.claim-column.result (left_opened then.before.before) (column_now then)
    ∙ taken_is_free c.catch_up.new.home.pool.limits c.make_event-self-inside.new.home.history (table_opened then.before.before) kept.legal kept.recorded c.number-pass.result c.args.job.slice c.claim-column.result
    (take_allowed then) (column_now then)

pub invariant_of-self : goal.invariant_of-self
invariant_of-self c =
    let then = c.before.before.before.before.before.before.before.before.before in
    let number = then.before.before.before.before.before.before.before.before.before.before in
    let i = c.self.inside in
    let pass = c.number-pass.result in
    let slice = c.args.job.slice in
    let column = c.claim-column.result in
    let e = event.Take pass slice column in
    let caught = c.catch_up.new.home in
    let middle = c.make_event-self-inside.new.home in
    let home = c.make_event-self-inside-2.new.home in
    let made = c.make_event-self-inside-2.ensures in
    let desk = (turn_now number).desk in
    let before = books_of i c.self.invariant.whole in
    let opened = books_opened then.before.before in
    let kept = kept_opened then.before.before in
    let few = few-next i.events_limit caught.pool.limits.passes middle.history e (event.Opened pass slice false) kept.few (take_allowed then).pass (last_opened then) (omega arith) in
    let y : Slot = record { column = became.Pending pass; doc = None } in
    let table = with_slot (table_opened then.before.before) slice column y in
    let stages = with_stage c.open.new.self slice (stage.InUse (column + 1) 0) in
    let told_stage : stage_of c.open.new.self slice ≡ stage.InUse column 0 = stage_now then.before.before ∙ ap (λ n. stage.InUse n 0) (sym (told then).0) in
    let desk_then =
    desk-with caught.pool home.pool i.events_limit caught.history middle.history home.history before (books_after before c.make_event-self-inside-2.result table c.claim-column.new.self) e
    (made.home.pool ∙ c.make_event-self-inside.ensures.home.pool) made.home.history refl desk
    (kept-as caught.pool.config caught.pool.limits i.events_limit (middle.history ++ e ∷ []) home.history (books_after opened (length middle.history + 1) table stages)
    c.make_event-self-inside-2.result table c.claim-column.new.self made.home.history (number_is middle home e c.make_event-self-inside-2.result made.home made.number) refl (told then).1
    (kept-take caught.pool.config caught.pool.limits i.events_limit middle.history opened kept pass slice column 0 (take_allowed then) few told_stage)) in
    let whole = table_opened then.before.before in
    let back = c.put_back.new.self in
    let left = left_opened then.before.before in
    let here = column_now then in
    let here_left = column-left whole back slice column left here in
    let free : is_over (slot_at whole slice column) ≡ false =
    ap is_over_in (taken_is_free caught.pool.limits middle.history whole kept.legal kept.recorded pass slice column (take_allowed then) here) in
    record {
      whole = table;
      desk = desk_then;
      left = subst (IsLeftOf table) (sym c.claim.ensures) (left-slot whole back left kept.recorded.size slice column y y here (record { column = refl; doc = inl refl }));
      documents = subst (λ (t : Table). AreKept i.tokens t i.leaving) (sym c.claim.ensures)
          (kept-slot i.tokens back i.leaving (subst (λ (t : Table). AreKept i.tokens t i.leaving) (sym c.put_back.ensures) (kept-back i.tokens i.records i.leaving c.self.invariant.documents slice)) slice column y
          (size-left whole back left kept.recorded.size) here_left (over-left (slot_at whole slice column) (slot_at back slice column) (left.each slice column here) ∙ free)
          (λ since until over. cc over.1) (λ doc over has. cc has));
    }

pub returns-clause-claim : goal.returns-clause-claim
returns-clause-claim c = ap (column_of c.args.job.slice) (told c.before.before.before.before.before.before.before.before.before).0

pub returns-clause-events : goal.returns-clause-events
returns-clause-events c =
    let then = c.before.before.before.before.before.before.before.before.before in
    let turn = turn_now then.before.before.before.before.before.before.before.before.before.before in
    let slice = c.args.job.slice in
    let opens = event.Opened c.number-pass.result slice false in
    let takes = event.Take c.number-pass.result slice c.claim-column.result in
    let first = c.make_event-self-inside in
    let second = c.make_event-self-inside-2 in
    let now = c.args.self.now in
    let seat = c.args.seat.now in
    let up = c.catch_up.new.seat in
    let middle = desk_at first.new.home c.self.inside.events_limit in
    let after = desk_at second.new.home c.self.inside.events_limit in
    let one = opened_made c.args.self.now c.self.inside.events_limit c.catch_up.new.home (books_of c.self.inside c.self.invariant.whole) c.args.seat.now c.catch_up.new.seat c.number-pass.result c.args.job.slice turn false first.new.home first.new.seat first.ensures.home first.ensures.seat in
    let two = made_one middle first.new.home second.new.home c.self.inside.events_limit first.new.seat second.new.seat takes refl
    (caught_after (opens ∷ []) now middle up first.new.seat turn.caught_up one first.ensures.none_outstanding) second.ensures.home
    (subst (λ (p : PoolId). IsLegal p.limits (first.new.home.history ++ takes ∷ [])) (sym first.ensures.home.pool)
    (legal-push c.catch_up.new.home.pool.limits first.new.home.history takes (kept_opened then.before.before).legal (take_allowed then))) second.ensures.seat in
    subst (λ n. Makes (event.Opened n slice false ∷ event.Take n slice 0 ∷ []) now after seat second.new.seat) (turn.number ∙ turn.same.number)
    (subst (λ n. Makes (opens ∷ event.Take c.number-pass.result slice n ∷ []) now after seat second.new.seat) (told then).0
    (makes_later (opens ∷ takes ∷ []) now after seat up second.new.seat turn.same turn.goes turn.caught_up.front
    (makes_more (opens ∷ []) (takes ∷ []) now middle after up first.new.seat second.new.seat one two)))

pub returns-clause-prepared : goal.returns-clause-prepared
returns-clause-prepared c =
    let made = c.make_event-self-inside-2.ensures in
    let next = c.make_event-self-inside-2.new.seat in
    let home = c.make_event-self-inside-2.new.home in
    record {
      unwritten = unwritten next c.make_event-self-inside.new.seat.front (event.Take c.number-pass.result c.args.job.slice c.claim-column.result) c.make_event-self-inside-2.result home.history
          (c.number-pass.ensures.number ∙ sym (made.seat.number ∙ c.make_event-self-inside.ensures.seat.number)) made.seat.front (returns-clause-events c).front made.number made.nothing_yet;
      laid = λ layout is. laid_by_reuse c.args.self.now (desk_at home c.self.inside.events_limit) c.args.seat.now next layout c.args.job c.requires.cleared.holds (returns-clause-events c) is;
    }
