-- A turn of a pass at the desk, as its own front tells it.
use Rattle.std.specs.Prelude.{◌≡◌, ℕ, List, ◌++◌, IfOk, MatchResult, Result}
use Rattle.funnel_model.specs.declared.event.Event.{Event}
use Rattle.funnel_model.specs.History.{IsFrontOf}
use Rattle.commit_desk.specs.Answers.{AnswersClear}
use Rattle.commit_desk.specs.declared.answers.ClearRefusal.{ClearRefusal}
use Rattle.commit_desk.specs.declared.answers.ToClear.{ToClear}
use Rattle.commit_desk.specs.Layouts.{HandsBackOld}
use Rattle.commit_desk.specs.Passes.{IsResting, IsToClear}
use Rattle.slice_rule.specs.Pools.{PoolId}
use Rattle.slice_rule.specs.Seats.{PassState}

-- The history had gone on since the pass saw it last, without an event of the pass; after that the desk answered, and made these
-- events; and the pass has seen them all.
pub record IsTurn (pass : ℕ) (before after : List Event) (answers : List Event → Type 0) (events : List Event) : Type 0 where
  pub earlier : List Event
  pub seen : IsFrontOf pass before earlier
  pub answer : answers earlier
  pub made : after ≡ earlier ++ events

-- a recycle is answered so at the desk, and with a slice to clear it gets the layout of the slice's older treatment, where no other slice has that
pub record StartsClear (pool : PoolId) (pass : ℕ) (answer : Result ToClear ClearRefusal) (history : List Event) : Type 0 where
  pub answers : AnswersClear pool.limits.events pool.limits history pass answer
  pub old : IfOk answer (λ work. HandsBackOld pool history work.job.slice work.old_layout)

-- what the first turn of a recycle leaves: the pass has a slice to clear, with all slots of its columns, or it rests
abbrev pub ClearsOrRests : PoolId → PassState → Result ToClear ClearRefusal → Type 0
ClearsOrRests pool pass answer =
    MatchResult answer (λ work. IsToClear pool work.job pass × (work.slots ≡ pool.limits.columns)) (λ _. IsResting pool pass)
