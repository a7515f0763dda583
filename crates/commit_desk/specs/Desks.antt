-- What contracts see of a desk, and what a call makes of it and of the pass.
use Rattle.std.specs.Prelude.{◌≡◌, ℕ, ◌<◌, List, ◌++◌, All, Option}
use Rattle.funnel_model.specs.declared.claim.Claim.{Claim}
use Rattle.funnel_model.specs.declared.event.Event.{Event}
use Rattle.funnel_model.specs.History.{IsFrontOf}
use Rattle.funnel_model.specs.Legal.{IsLegal}
use Rattle.row_layout.specs.Layouts.{LayoutId}
use Rattle.slice_rule.specs.Numbers.{last_number}
use Rattle.slice_rule.specs.Pools.{PoolId}
use Rattle.slice_rule.specs.Seats.{IsSeated, PassState, number_under}
use Rattle.commit_desk.specs.declared.answers.Taken.{Taken}
use Rattle.commit_desk.specs.declared.answers.Taken.TheVariants as taken
use Rattle.commit_desk.specs.Answers.{LeavesRoom}
use Rattle.commit_desk.specs.Layouts.{HandsBackOld, IsLayoutOf}

-- its pool, the number of events from which on it takes no call, and the history
pub record DeskState : Type 0 where
  pub pool : PoolId
  pub events_limit : ℕ
  pub history : List Event

-- the pass has seen the whole history
pub record IsCaughtUp (desk : DeskState) (seat : PassState) : Type 0 where
  pub seated : IsSeated desk.pool seat
  pub in_range : seat.number < desk.pool.limits.passes
  pub front : seat.front ≡ desk.history

-- A call of the pass appended these events. The pass had made no event that its front lacked, and has seen the whole history now;
-- what it did itself is as it was.
pub record Makes (events : List Event) (before after : DeskState) (seat next : PassState) : Type 0 where
  pub pool : after.pool ≡ before.pool
  pub limit : after.events_limit ≡ before.events_limit
  pub history : after.history ≡ before.history ++ events
  pub legal : IsLegal after.pool.limits after.history
  pub seen : IsFrontOf seat.number seat.front before.history
  pub same : next.pool ≡ seat.pool
  pub number : next.number ≡ seat.number
  pub front : next.front ≡ after.history
  pub asked : next.asked ≡ seat.asked ++ events
  pub own : next.own ≡ seat.own

-- the pass did nothing yet under its last event
abbrev pub NothingUnderLast : PassState → Type 0
NothingUnderLast seat = All (λ f. number_under f < last_number seat.number seat.front) seat.own

-- a pass that just claimed a column has set no bit there yet
pub record IsUnwritten (seat : PassState) : Type 0 where
  pub nothing : NothingUnderLast seat

-- a pass that just claimed a column of a slice with this layout, as it has seen
pub record IsFresh (claim : Claim) (layout : LayoutId) (seat : PassState) : Type 0 where
  pub unwritten : IsUnwritten seat
  pub laid : IsLayoutOf seat.pool.config claim.slice seat.front layout

-- so it is with a pass that has claimed a column; and with a slice to clear comes the layout that it has from now on
abbrev pub IsPrepared : Taken → PassState → Type 0
IsPrepared (taken.Claim claim layout) seat = IsFresh claim layout seat
IsPrepared (taken.Clear work layout) seat = IsLayoutOf seat.pool.config work.job.slice seat.front layout
IsPrepared _ seat = Unit {0}

-- with a slice to clear after these events comes the layout of its older treatment, where no other slice has that
abbrev pub HandsBackWith : PoolId → List Event → Taken → Type 0
HandsBackWith pool history (taken.Clear work layout) = HandsBackOld pool history work.job.slice work.old_layout
HandsBackWith pool history _ = Unit {0}

-- what a take gives with its answer: the layout by which bits are to be set, the one that no slice has any more, and the room that it was
-- given, unless it needed that
pub record HandsOver {A : Type 0} (desk : DeskState) (answer : Taken) (seat : PassState) (given left : Option A) : Type 0 where
  pub prepared : IsPrepared answer seat
  pub old : HandsBackWith desk.pool desk.history answer
  pub room : LeavesRoom answer given left

-- a pass that opened the slice and claimed its first column: the slice has the layout that it had
pub record IsReused (slice : ℕ) (seat next : PassState) : Type 0 where
  pub unwritten : IsUnwritten next
  pub laid : (layout : LayoutId) → IsLayoutOf seat.pool.config slice seat.front layout → IsLayoutOf next.pool.config slice next.front layout
