-- What a recycle is answered, and its turns at the desk.
use Rattle.std.specs.Prelude.{◌≡◌, ℕ, true, List, [], ◌∷◌, Ok, Err, Option}
use Rattle.funnel_model.specs.declared.call.Call.TheVariants as call
use Rattle.funnel_model.specs.declared.event.Event.{Event}
use Rattle.funnel_model.specs.declared.event.Event.TheVariants as event
use Rattle.funnel_model.specs.declared.reply.Reply.{Reply}
use Rattle.funnel_model.specs.declared.reply.Reply.TheVariants as reply
use Rattle.funnel_model.specs.Legal.{Limits}
use Rattle.funnel_model.specs.Steps.{Step}
use Rattle.row_layout.specs.Layouts.{LayoutId}
use Rattle.commit_desk.specs.Answers.{AnswersClear, events_of_clear}
use Rattle.commit_desk.specs.declared.answers.ClearRefusal.{ClearRefusal}
use Rattle.commit_desk.specs.declared.answers.ClearRefusal.TheVariants as clear
use Rattle.commit_desk.specs.declared.answers.ToClear.{ToClear}
use Rattle.commit_desk.specs.Passes.{IsResting}
use Rattle.slice_recycler.specs.declared.recycling.Recycled.{Recycled}
use Rattle.slice_recycler.specs.declared.recycling.Recycled.TheVariants as recycled
use Rattle.slice_recycler.specs.Turns.{IsTurn}
use Rattle.slice_rule.specs.Pools.{PoolId}
use Rattle.slice_rule.specs.Seats.{PassState}

-- the reply that says so
abbrev pub reply_of_recycle : Recycled → Reply
reply_of_recycle (recycled.Done slice) = reply.Recycled slice
reply_of_recycle recycled.NoneRetired = reply.NothingRetired
reply_of_recycle (recycled.Guarded slice pass opened_at) = reply.Guarded slice pass
reply_of_recycle (recycled.Spent events) = reply.Spent

-- what becomes of a recycle that the desk refuses so
abbrev pub refused_as : ClearRefusal → Recycled
refused_as clear.NoneRetired = recycled.NoneRetired
refused_as (clear.Guarded slice pass opened_at) = recycled.Guarded slice pass opened_at
refused_as (clear.Spent events) = recycled.Spent events

-- a recycle that is refused at the desk
abbrev pub IsRefusedTurn : Limits → ℕ → List Event → List Event → ClearRefusal → Type 0
IsRefusedTurn limits pass before after refusal =
    IsTurn pass before after (λ history. AnswersClear limits.events limits history pass (Err refusal)) (events_of_clear pass (Err refusal))

-- the slice is to be cleared, with as many old slots as it has columns, and with a layout that is to be dropped, if there is one
abbrev pub work_on : Limits → ℕ → Option LayoutId → ToClear
work_on limits slice old_layout = record { job = record { slice = slice }; slots = limits.columns; old_layout = old_layout }

-- A recycle clears the slice that the desk names in a first turn, and opens it in a second one; a refused one has one turn.
abbrev pub RecycleTurns : Limits → ℕ → List Event → List Event → Recycled → Type 0
RecycleTurns limits pass before after (recycled.Done slice) =
    (middle : List Event) × (old_layout : Option LayoutId)
    × IsTurn pass before middle (λ history. AnswersClear limits.events limits history pass (Ok (work_on limits slice old_layout))) (event.Clear pass slice ∷ [])
    × IsTurn pass middle after (λ history. Unit {0}) (event.Opened pass slice true ∷ [])
RecycleTurns limits pass before after recycled.NoneRetired = IsRefusedTurn limits pass before after clear.NoneRetired
RecycleTurns limits pass before after (recycled.Guarded slice guard opened_at) = IsRefusedTurn limits pass before after (clear.Guarded slice guard opened_at)
RecycleTurns limits pass before after (recycled.Spent events) = IsRefusedTurn limits pass before after (clear.Spent events)

-- A recycle is one step of the pass, from what it had seen to what it has seen now, and was answered in these turns; it is the same pass,
-- which rests.
pub record AnswersRecycle (pool : PoolId) (before after : PassState) (answer : Recycled) : Type 0 where
  pub step : Step pool.limits before.number before.front after.front call.Recycle (reply_of_recycle answer)
  pub turns : RecycleTurns pool.limits before.number before.front after.front answer
  pub rests : IsResting pool after
  pub number : after.number ≡ before.number
