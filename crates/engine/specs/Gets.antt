-- The turns of a get at the desk.
use Rattle.std.specs.Prelude.{◌≡◌, ℕ, List, [], ◌∷◌, Option, Some, None, Result, Ok, Err}
use Rattle.funnel_model.specs.declared.call.Call.TheVariants as call
use Rattle.funnel_model.specs.declared.event.Event.{Event}
use Rattle.funnel_model.specs.declared.event.Event.TheVariants as event
use Rattle.funnel_model.specs.History.{Document, document_with}
use Rattle.funnel_model.specs.Legal.{Limits}
use Rattle.commit_desk.specs.Answers.{IsSpentAt, TakesCalls}
use Rattle.commit_desk.specs.declared.answers.TextRead.{TextRead}
use Rattle.commit_desk.specs.declared.answers.TextRead.TheVariants as read
use Rattle.engine.specs.declared.getting.GetFault.{GetFault}
use Rattle.engine.specs.declared.getting.GetFault.TheVariants as get
use Rattle.slice_recycler.specs.Turns.{IsTurn}

-- what a get is answered after its last look at the desk, by what was copied there
abbrev pub answer_of_read : TextRead → List ℕ → Result (ℕ × List ℕ) GetFault
answer_of_read (read.Read place) copied = Ok (place, copied)
answer_of_read read.Absent copied = Err get.Absent
answer_of_read (read.Short bytes) copied = Err get.Memory
answer_of_read (read.Spent events) copied = Err (get.Spent events)

-- calls are taken, and this is the live document with the number, if there is one
pub record HasLiveWith (limits : Limits) (id : ℕ) (document : Option Document) (history : List Event) : Type 0 where
  pub takes_calls : TakesCalls limits.events history
  pub is : document_with id history ≡ document

-- calls are taken, and the number is live
abbrev pub HasSomeWith : Limits → ℕ → List Event → Type 0
HasSomeWith limits id history = (document : Document) × HasLiveWith limits id (Some document) history

-- A get is answered by what is live in the turn that makes its event. Where no memory is found for the text it makes none: the number was live
-- when the desk was last looked at.
abbrev pub GetTurn : Limits → ℕ → ℕ → List Event → List Event → Result (ℕ × List ℕ) GetFault → Type 0
GetTurn limits pass id before after (Ok told) =
    IsTurn pass before after (HasLiveWith limits id (Some (record { id = id; text = told.1; place = told.0 }))) (event.Read pass (call.Get id) ∷ [])
GetTurn limits pass id before after (Err get.Absent) = IsTurn pass before after (HasLiveWith limits id None) (event.Read pass (call.Get id) ∷ [])
GetTurn limits pass id before after (Err (get.Spent events)) = IsTurn pass before after (λ history. IsSpentAt limits.events history events) []
GetTurn limits pass id before after (Err get.Memory) = IsTurn pass before after (HasSomeWith limits id) []
