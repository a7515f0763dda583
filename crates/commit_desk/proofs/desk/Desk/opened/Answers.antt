use Rattle.std.proofs.Common.{◌<◌, true, [], ◌∷◌, refl, sym, ◌∙◌, subst, arith}
use Rattle.funnel_model.specs.declared.event.Event.TheVariants as event
use Rattle.funnel_model.specs.Legal.{IsAllowed}
use Rattle.slice_rule.specs.Pools.{PoolId}
use Rattle.commit_desk.specs.Desks.{Makes}
use Rattle.commit_desk.proofs.CaughtUp.{zero_caught}
use Rattle.document_store.specs.Slots.{with_slice}
use Rattle.commit_desk.proofs.Inside.{books_of, left_books}
use Rattle.commit_desk.proofs.JobTurns.{JobTurn, job_turn, opened_allowed, opened_kept, opened_made, pool_now, slice_clearing, slice_in_range, slice_out, slots_back}
use Rattle.commit_desk.proofs.Keeping.{out-left}
use Rattle.commit_desk.proofs.KeepingDesks.{keeping-back}
use Rattle.commit_desk.proofs.MadeEvents.{desk_at, number_is}
use Rattle.commit_desk.proofs.SliceEvents.{books_after, desk-with}
use Rattle.commit_desk.proofs.Turns.{makes_later}
use Rattle.commit_desk.proofs.desk.Desk.opened.Goals as goal
use Rattle.commit_desk.proofs.desk.Desk.opened.Goals.{After-number-pass}

-- the pass caught up
turn_now : (c : After-number-pass) →
    JobTurn c.args.self.now c.self.inside.events_limit c.catch_up.new.home (books_of c.self.inside c.self.invariant.whole) c.args.seat.now c.catch_up.new.seat c.number-pass.result c.args.job.slice
turn_now c =
    let i = c.self.inside in
    let up = c.catch_up.ensures in
    job_turn c.args.pool.now c.args.self.now i.events_limit i.home c.catch_up.new.home (books_of i c.self.invariant.whole) c.args.seat.now c.catch_up.new.seat c.number-pass.result c.args.job c.requires.pool
    c.requires.seat c.requires.job c.self.view_is c.self.invariant.desk up.home up.seat up.front up.none_since up.none_outstanding up.in_range c.number-pass.ensures.number

allowed_now : (c : After-number-pass) → IsAllowed c.catch_up.new.home.pool.limits c.catch_up.new.home.history (event.Opened c.number-pass.result c.args.job.slice true)
allowed_now c = opened_allowed c.args.self.now c.self.inside.events_limit c.catch_up.new.home (books_of c.self.inside c.self.invariant.whole) c.args.seat.now c.catch_up.new.seat c.number-pass.result c.args.job.slice (turn_now c) true

pub make_event-self-inside-requires-clause-allowed : goal.make_event-self-inside-requires-clause-allowed
make_event-self-inside-requires-clause-allowed c =
    let number = c.before.before.before in
    subst (λ (p : PoolId). IsAllowed p.limits c.catch_up.new.home.history (event.Opened c.number-pass.result c.args.job.slice true))
    (pool_now c.args.self.now c.self.inside.events_limit c.catch_up.new.home (books_of c.self.inside c.self.invariant.whole) c.args.seat.now c.catch_up.new.seat c.number-pass.result c.args.job.slice (turn_now number) c.args.pool.now c.requires.pool) (allowed_now number)

pub make_event-self-inside-requires-clause-ready : goal.make_event-self-inside-requires-clause-ready
make_event-self-inside-requires-clause-ready c =
    let up = c.catch_up.ensures in
    zero_caught c.args.pool.now c.args.self.now.pool c.args.seat.now c.catch_up.new.seat c.number-pass.result c.args.job.slice c.requires.pool up.seat up.none_since c.number-pass.ensures.number c.requires.zero

in_range_now : (c : After-number-pass) → c.args.job.slice < c.catch_up.new.home.pool.limits.slices
in_range_now c = slice_in_range c.args.self.now c.self.inside.events_limit c.catch_up.new.home (books_of c.self.inside c.self.invariant.whole) c.args.seat.now c.catch_up.new.seat c.number-pass.result c.args.job.slice (turn_now c)

pub put_back-requires-clause-in_range : goal.put_back-requires-clause-in_range
put_back-requires-clause-in_range c =
    let number = c.before.before.before.before.before.before in
    let in' = in_range_now number in
    let slices_are = (turn_now number).desk.kept.recorded.slices_are in
    let left = c.self.invariant.left.slices in
    omega arith

pub put_back-requires-clause-out : goal.put_back-requires-clause-out
put_back-requires-clause-out c =
    out-left c.self.invariant.whole c.self.inside.records c.args.job.slice c.self.invariant.left
    ∙ slice_out c.args.self.now c.self.inside.events_limit c.catch_up.new.home (books_of c.self.inside c.self.invariant.whole) c.args.seat.now c.catch_up.new.seat c.number-pass.result c.args.job.slice (turn_now c.before.before.before.before.before.before)

pub put_back-requires-clause-columns : goal.put_back-requires-clause-columns
put_back-requires-clause-columns c = slots_back c.args.self.now c.self.inside.events_limit c.catch_up.new.home (books_of c.self.inside c.self.invariant.whole) c.args.seat.now c.catch_up.new.seat c.number-pass.result c.args.job.slice (turn_now c.before.before.before.before.before.before) c.args.slots c.requires.slots
    ∙ sym c.self.invariant.left.columns

pub open-requires-clause-in_range : goal.open-requires-clause-in_range
open-requires-clause-in_range c =
    let number = c.before.before.before.before.before.before.before.before in
    let in' = in_range_now number in
    let count = (turn_now number).desk.kept.staged.count in
    omega arith

pub open-requires-clause-clearing : goal.open-requires-clause-clearing
open-requires-clause-clearing c = slice_clearing c.args.self.now c.self.inside.events_limit c.catch_up.new.home (books_of c.self.inside c.self.invariant.whole) c.args.seat.now c.catch_up.new.seat c.number-pass.result c.args.job.slice (turn_now c.before.before.before.before.before.before.before.before)

pub invariant_of-self : goal.invariant_of-self
invariant_of-self c =
    let number = c.before.before.before.before.before.before.before.before.before.before in
    let i = c.self.inside in
    let e = event.Opened c.number-pass.result c.args.job.slice true in
    let caught = c.catch_up.new.home in
    let made = c.make_event-self-inside.ensures in
    let home = c.make_event-self-inside.new.home in
    let table = with_slice c.self.invariant.whole c.args.job.slice in
    let desk =
    desk-with caught.pool home.pool i.events_limit caught.history caught.history home.history (books_of i c.self.invariant.whole)
    (books_after (books_of i c.self.invariant.whole) c.make_event-self-inside.result table c.open.new.self) e made.home.pool made.home.history refl (turn_now number).desk
    (opened_kept c.args.self.now c.self.inside.events_limit c.catch_up.new.home (books_of c.self.inside c.self.invariant.whole) c.args.seat.now c.catch_up.new.seat c.number-pass.result c.args.job.slice (turn_now number) true home c.make_event-self-inside.result table c.open.new.self made.home
    (number_is caught home e c.make_event-self-inside.result made.home made.number) refl c.open.ensures) in
    keeping-back i.home.pool i.events_limit i.home.history (left_books i) i.leaving c.self.invariant home.pool home.history
    (books_after (left_books i) c.make_event-self-inside.result c.put_back.new.self c.open.new.self) c.args.job.slice desk c.put_back.ensures refl

pub returns-clause-events : goal.returns-clause-events
returns-clause-events c =
    let turn = turn_now c.before.before.before.before.before.before.before.before.before.before in
    let e = event.Opened c.number-pass.result c.args.job.slice true in
    let up = c.catch_up.new.seat in
    let made = c.make_event-self-inside.ensures in
    let home = c.make_event-self-inside.new.home in
    let next = c.make_event-self-inside.new.seat in
    subst (λ n. Makes (event.Opened n c.args.job.slice true ∷ []) c.args.self.now (desk_at home c.self.inside.events_limit) c.args.seat.now next) (turn.number ∙ turn.same.number)
    (makes_later (e ∷ []) c.args.self.now (desk_at home c.self.inside.events_limit) c.args.seat.now up next turn.same turn.goes turn.caught_up.front
    (opened_made c.args.self.now c.self.inside.events_limit c.catch_up.new.home (books_of c.self.inside c.self.invariant.whole) c.args.seat.now c.catch_up.new.seat c.number-pass.result c.args.job.slice turn true home next made.home made.seat))
