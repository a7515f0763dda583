-- What contracts see of a pass of an engine between its calls, and what a call makes of it.
use Rattle.std.specs.Prelude.{◌≡◌, ℕ, ◌≤◌, List, [], vec_capacity}
use Rattle.funnel_model.specs.declared.call.Call.{Call}
use Rattle.funnel_model.specs.declared.event.Event.{Event}
use Rattle.funnel_model.specs.declared.reply.Reply.{Reply}
use Rattle.funnel_model.specs.Legal.{IsLegal, Limits}
use Rattle.funnel_model.specs.Steps.{AddsCall, AddsNone, Step}
use Rattle.slice_rule.specs.Pools.{PoolId}
use Rattle.slice_rule.specs.Seats.{PassState}
use Rattle.commit_desk.specs.declared.find_layouts.FindLayouts.{FindLayouts}
use Rattle.commit_desk.specs.Passes.{IsResting}
use Rattle.document_store.specs.Documents.{Parts}

-- a pass by its number, and the part of the history that it has seen
pub record PassView : Type 0 where
  pub number : ℕ
  pub front : List Event

-- what its seat tells of it
abbrev pub view_of : PassState → PassView
view_of seat = record { number = seat.number; front = seat.front }

-- there is room for an entry of each slice
abbrev pub HasRoomForEach : PoolId → FindLayouts → Type 0
HasRoomForEach pool layouts = pool.limits.slices ≤ vec_capacity layouts.entries

-- A pass of the engine between its calls: it rests, and keeps no layout, but room for one of each slice.
pub record IsBetweenCalls (pool : PoolId) (seat : PassState) (layouts : FindLayouts) : Type 0 where
  pub rests : IsResting pool seat
  pub none : layouts.entries.items ≡ []
  pub room : HasRoomForEach pool layouts

-- and a pass of an engine that threads share keeps no document either that may go: its calls dropped those that they were handed
pub record IsPassBetweenCalls (pool : PoolId) (seat : PassState) (layouts : FindLayouts) (gone : List Parts) : Type 0 where
  pub between : IsBetweenCalls pool seat layouts
  pub dropped : gone ≡ []

-- a pass of a new engine, which has seen nothing
abbrev pub new_pass : ℕ → PassView
new_pass number = record { number = number; front = [] }

-- the pass made this call: a step leads from what it had seen to what it has seen now, and gives this reply; it is the same pass
pub record MakesCall (limits : Limits) (asked : Call) (given : Reply) (before after : PassView) : Type 0 where
  pub step : Step limits before.number before.front after.front asked given
  pub number : after.number ≡ before.number

-- the pass began to answer this call, which is a find that it has open now; it is the same pass
pub record BeginsCall (limits : Limits) (asked : Call) (before after : PassView) : Type 0 where
  pub call : AddsCall before.number before.front after.front asked
  pub legal : IsLegal limits after.front
  pub number : after.number ≡ before.number

-- the pass has seen more of a legal history, and made no call meanwhile; it is the same pass
pub record MakesNoCall (limits : Limits) (before after : PassView) : Type 0 where
  pub calls : AddsNone before.number before.front after.front
  pub legal : IsLegal limits after.front
  pub number : after.number ≡ before.number
