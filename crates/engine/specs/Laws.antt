-- What the turns of an add say of the history, and what is left of an engine.
use Rattle.std.specs.Prelude.{◌≡◌, ℕ, ◌≤◌, Bool, false, List, Contains, length, Ok, Err}
use mathlib.Core.List.{IsPrefix}
use Rattle.funnel_model.specs.declared.bit_list.Bit.{Bit}
use Rattle.funnel_model.specs.declared.call.Call.TheVariants as call
use Rattle.funnel_model.specs.declared.call.TheConstants.{MOST_MOVES}
use Rattle.funnel_model.specs.declared.claim.Claim.{Claim}
use Rattle.funnel_model.specs.declared.config.Config.{Config}
use Rattle.funnel_model.specs.declared.event.Event.{Event}
use Rattle.funnel_model.specs.declared.event.Event.TheVariants as event
use Rattle.funnel_model.specs.declared.reply.Reply.TheVariants as reply
use Rattle.funnel_model.specs.History.{answer}
use Rattle.funnel_model.specs.Legal.{IsIdle, Limits}
use Rattle.commit_desk.specs.declared.answers.AddFault.TheVariants as add
use Rattle.engine.specs.Adds.{AddTurns, ClearsFirst}
use Rattle.engine.specs.Engines.{ClosedState, IsClosed}
use Rattle.engine.specs.Finds.{FindBegins, FindEnds, IsBegunAt}
use Rattle.engine.specs.Moves.{AreBitsAt, SomeMoves}
use Rattle.engine.specs.Passes.{BeginsCall, MakesCall, MakesNoCall, PassView}

-- an add that found no memory did nothing but move a few documents
abbrev pub AddsWithoutMemoryAddNothing : Type 0
AddsWithoutMemoryAddNothing = (config : Config) (limits : Limits) (pass id : ℕ) (text : List ℕ) (before after : List Event) →
    AddTurns config limits pass id text before after (Err add.Memory) → (moves : ℕ) × (moves ≤ MOST_MOVES) × SomeMoves config limits pass false id before after moves

-- the history has the add of this document to some column, with exactly the bits of its text there, by the treatment that the slice had when
-- the pass had claimed the column
pub record HasAdd (config : Config) (limits : Limits) (history : List Event) (pass id : ℕ) (text : List ℕ) : Type 0 where
  pub claim : Claim
  pub bits : List Bit
  pub claimed : List Event
  pub grows : IsPrefix claimed history
  pub has : Contains history (event.Add pass id text claim.slice claim.column bits)
  pub of_text : AreBitsAt config limits claimed text claim bits

-- an add that is answered by its place is in the history so
abbrev pub AddsAreMadeWithTheirBits : Type 0
AddsAreMadeWithTheirBits = (config : Config) (limits : Limits) (pass id place : ℕ) (text : List ℕ) (before after : List Event) →
    AddTurns config limits pass id text before after (Ok place) → HasAdd config limits after pass id text

-- an add or a put that cleared a slice took the column that it claims, which is the first
abbrev pub ClearedSlicesAreFilledFromTheFirst : Type 0
ClearedSlicesAreFilledFromTheFirst = (limits : Limits) (pass : ℕ) (replaces : Bool) (id : ℕ) (text : List ℕ) (before after : List Event) (claim : Claim) →
    ClearsFirst limits pass replaces id text before after claim → Contains after (event.Take pass claim.slice claim.column) × (claim.column ≡ 0)

-- what is left of an engine tells how many events its history has
abbrev pub ClosedEnginesCountTheirEvents : Type 0
ClosedEnginesCountTheirEvents = (closed : ClosedState) → IsClosed closed → closed.events ≡ length closed.history

-- what is told of a find that a pass at rest began, of its pass while it was open, and of its end, after which the pass rests again
pub record BeginsAndEnds (limits : Limits) (query ids : List ℕ) (before opened after : PassView) : Type 0 where
  pub idle : IsIdle before.number before.front
  pub call : BeginsCall limits (call.Find query) before opened
  pub begun : FindBegins limits before.number query before.front opened.front
  pub found : (earlier : List Event) (asked : List ℕ) → IsBegunAt opened earlier asked → ids ≡ answer earlier asked
  pub ended : FindEnds opened.number opened.front after.front
  pub calls : MakesNoCall limits opened after
  pub rests : IsIdle after.number after.front

-- such a find is one call of its pass, which is answered by what was live as it began
abbrev pub OpenFindsAreFinds : Type 0
OpenFindsAreFinds = (limits : Limits) (query ids : List ℕ) (before opened after : PassView) → BeginsAndEnds limits query ids before opened after →
    MakesCall limits (call.Find query) (reply.Found ids) before after
