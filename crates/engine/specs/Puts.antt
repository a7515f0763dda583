-- The turns of a put at the desk: those of its moves, and those for its own document.
use Rattle.std.specs.Prelude.{◌≡◌, ℕ, ◌⊎◌, true, List, [], ◌∷◌, Result, Ok, Err}
use Rattle.funnel_model.specs.declared.bit_list.Bit.{Bit}
use Rattle.funnel_model.specs.declared.claim.Claim.{Claim}
use Rattle.funnel_model.specs.declared.config.Config.{Config}
use Rattle.funnel_model.specs.declared.event.Event.{Event}
use Rattle.funnel_model.specs.declared.event.Event.TheVariants as event
use Rattle.funnel_model.specs.Legal.{Limits}
use Rattle.commit_desk.specs.Answers.{AnswersPut}
use Rattle.commit_desk.specs.declared.answers.AddFault.TheVariants as add
use Rattle.commit_desk.specs.declared.answers.Put.{Put}
use Rattle.commit_desk.specs.declared.answers.Taken.TheVariants as taken
use Rattle.engine.specs.Adds.{ClaimTurns, RefusedTurn, TurnOfTake}
use Rattle.engine.specs.Moves.{AreBitsAt, MovesAll}
use Rattle.engine.specs.declared.putting.PutFault.{PutFault}
use Rattle.engine.specs.declared.putting.PutFault.TheVariants as put
use Rattle.slice_recycler.specs.Turns.{IsTurn}

-- the put came to its last turn, in which the document was added with exactly its bits, by the treatment that its slice had when the pass had
-- claimed the column; where its number was live there, it took the place of the live document by this one event
pub record PutsLast (config : Config) (limits : Limits) (pass id : ℕ) (text : List ℕ) (before after : List Event) (answer : Put) : Type 0 where
  pub claim : Claim
  pub bits : List Bit
  pub middle : List Event
  pub claimed : ClaimTurns limits pass true id text before middle claim
  pub of_text : AreBitsAt config limits middle text claim bits
  pub done : IsTurn pass middle after (λ history. AnswersPut history id answer) (event.Add pass id text claim.slice claim.column bits ∷ [])

-- The turns of a put for its own document. It is refused in the turn that looks for a column: as spent, for want of memory for the layout of
-- its slice, and as full, after it had waited for slices that were being cleared.
abbrev pub OwnPutTurns : Config → Limits → ℕ → ℕ → List ℕ → List Event → List Event → Result Put PutFault → Type 0
OwnPutTurns config limits pass id text before after (Ok done) = PutsLast config limits pass id text before after done
OwnPutTurns config limits pass id text before after (Err (put.Full blocks)) = RefusedTurn limits pass true id text before after (add.Full blocks)
OwnPutTurns config limits pass id text before after (Err (put.Spent events)) =
    TurnOfTake limits pass true id text before after (taken.Refused (add.Spent events))
OwnPutTurns config limits pass id text before after (Err put.Memory) = TurnOfTake limits pass true id text before after (taken.Refused add.Memory)

-- the put moved documents, and then came its own turns
pub record PutsAfterMoves (config : Config) (limits : Limits) (pass id : ℕ) (text : List ℕ) (before after : List Event) (answer : Result Put PutFault) : Type 0 where
  pub middle : List Event
  pub moves : MovesAll config limits pass true id before middle
  pub own : OwnPutTurns config limits pass id text middle after answer

-- The turns of a put. Where no memory was found for it nothing was done, and nothing was moved; or none was found for the layout of its slice,
-- after the moves.
abbrev pub PutTurns : Config → Limits → ℕ → ℕ → List ℕ → List Event → List Event → Result Put PutFault → Type 0
PutTurns config limits pass id text before after (Err put.Memory) =
    (before ≡ after) ⊎ PutsAfterMoves config limits pass id text before after (Err put.Memory)
PutTurns config limits pass id text before after answer = PutsAfterMoves config limits pass id text before after answer
