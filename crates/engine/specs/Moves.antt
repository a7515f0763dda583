-- The moves of an add or a put at the desk: where few columns are left, it first moves documents out of the filled slice that holds the fewest,
-- so that the slice can be cleared.
use Rattle.std.specs.Prelude.{◌≡◌, ◌≤◌, ◌⊎◌, ℕ, zero, suc, ◌↔◌, Bool, true, false, List, [], ◌∷◌, length, slice_index_or, IsTrue, Option, None, Result, Ok, Err}
use Rattle.funnel_model.specs.declared.bit_list.Bit.{Bit}
use Rattle.funnel_model.specs.declared.call.TheConstants.{MOST_MOVES}
use Rattle.funnel_model.specs.declared.claim.Claim.{Claim}
use Rattle.funnel_model.specs.declared.config.Config.{Config}
use Rattle.funnel_model.specs.declared.event.Event.{Event}
use Rattle.funnel_model.specs.declared.event.Event.TheVariants as event
use Rattle.funnel_model.specs.declared.memory.Memory.{Memory}
use Rattle.funnel_model.specs.History.{IsFrontOf}
use Rattle.funnel_model.specs.Legal.{Limits}
use Rattle.funnel_model.specs.Tunings.{treat}
use Rattle.funnel_model.specs.Words.{words}
use Rattle.commit_desk.specs.declared.look.Look.{Look}
use Rattle.commit_desk.specs.Moving.{AnswersLook, IsLookAtNext, IsThereStill, LooksState, MayTakeFor, MayTakeNone, NoneToMove, SomeToBeMoved, event_of_move}
use Rattle.row_layout.specs.DocumentBits.{AreDocumentBitsIn}
use Rattle.slice_recycler.specs.Turns.{IsTurn}

-- The looks of an engine's passes, at a look of this one: an entry for each, and the pass has none open itself. A look is no event, so which
-- columns the others name no history tells.
pub record AreLooksOfOthers (limits : Limits) (pass : ℕ) (looks : LooksState) : Type 0 where
  pub each_pass : length looks ≡ limits.passes
  pub own : slice_index_or looks pass None ≡ None

-- the look is at the document that is moved next before one with this number is added or put, by the looks that other passes have open
pub record IsToBeMoved (reserve : ℕ) (limits : Limits) (history : List Event) (pass : ℕ) (replaces : Bool) (id : ℕ) (look : Look) : Type 0 where
  pub looks : LooksState
  pub of_others : AreLooksOfOthers limits pass looks
  pub at_next : IsLookAtNext reserve limits.events limits looks history replaces id look

-- a look is answered so, by the looks that other passes have open
pub record IsLookForMove (reserve : ℕ) (limits : Limits) (pass : ℕ) (replaces : Bool) (id : ℕ) (answer : Result (Option Look) Memory) (history : List Event) : Type 0 where
  pub looks : LooksState
  pub of_others : AreLooksOfOthers limits pass looks
  pub answers : AnswersLook reserve limits.events limits looks history pass replaces id answer

-- exactly the bits of a document with this text at the column, by the treatment of its slice after these events, where each slice has the
-- room of the engine's
abbrev pub AreBitsAt : Config → Limits → List Event → List ℕ → Claim → List Bit → Type 0
AreBitsAt opening limits history text claim bits =
    AreDocumentBitsIn limits.slice_words (treat opening claim.slice history) (words text) claim.slice claim.column bits

-- A move. The pass looked at a document, took a column for it, and set exactly its bits there. Then the document was moved, where it was
-- still where it was looked at, and else the column was left void.
pub record MoveTurns (config : Config) (limits : Limits) (pass : ℕ) (replaces : Bool) (id : ℕ) (before after : List Event) : Type 0 where
  pub look : Look
  pub claim : Claim
  pub bits : List Bit
  pub moved : Bool
  pub seen : List Event
  pub middle : List Event
  pub looked : IsTurn pass before seen (λ history. IsToBeMoved config.reserve limits history pass replaces id look) []
  pub took :
      IsTurn pass seen middle (λ history. MayTakeFor limits.events limits history pass look claim.slice claim.column) (event.Take pass claim.slice claim.column ∷ [])
  pub of_text : AreBitsAt config limits middle look.doc.text claim bits
  pub ended : IsTurn pass middle after (λ history. IsTrue moved ↔ IsThereStill history look) (event_of_move pass look claim bits moved ∷ [])

-- so many moves, one after another, after which the history may have gone on
abbrev pub SomeMoves : Config → Limits → ℕ → Bool → ℕ → List Event → List Event → ℕ → Type 0
SomeMoves config limits pass replaces id before after zero = IsFrontOf pass before after
SomeMoves config limits pass replaces id before after (suc moves) =
    (middle : List Event) × MoveTurns config limits pass replaces id before middle × SomeMoves config limits pass replaces id middle after moves

-- the pass looked at a document, and no column was claimed for it
pub record LooksInVain (config : Config) (limits : Limits) (pass : ℕ) (replaces : Bool) (id : ℕ) (before after : List Event) : Type 0 where
  pub look : Look
  pub seen : List Event
  pub looked : IsTurn pass before seen (λ history. IsToBeMoved config.reserve limits history pass replaces id look) []
  pub none : IsTurn pass seen after (λ history. MayTakeNone limits.events limits history pass look) []

-- a document was to be moved, and there was no memory for it
pub record LacksMemory (config : Config) (limits : Limits) (pass : ℕ) (replaces : Bool) (id : ℕ) (before after : List Event) : Type 0 where
  pub seen : List Event
  pub looked : IsTurn pass before seen (λ history. SomeToBeMoved config.reserve limits.events limits history replaces id) []
  pub later : IsFrontOf pass seen after

-- what keeps a pass from one move more: no document is to be moved, or no column is claimed for it
abbrev pub MovesNone : Config → Limits → ℕ → Bool → ℕ → List Event → List Event → Type 0
MovesNone config limits pass replaces id before after =
    IsTurn pass before after (λ history. NoneToMove config.reserve limits.events limits history replaces id) [] ⊎ LooksInVain config limits pass replaces id before after

-- whether a move was made, which may have left its column void, unless there was no memory for it
abbrev pub EndsMove : Config → Limits → ℕ → Bool → ℕ → List Event → List Event → Result Bool Memory → Type 0
EndsMove config limits pass replaces id before after (Ok true) = MoveTurns config limits pass replaces id before after
EndsMove config limits pass replaces id before after (Ok false) = MovesNone config limits pass replaces id before after
EndsMove config limits pass replaces id before after (Err memory) = LacksMemory config limits pass replaces id before after

-- the moves of an add or a put: as many as one makes at most, or fewer, where something kept the pass from one more, or there was no memory for it
pub record MovesAll (config : Config) (limits : Limits) (pass : ℕ) (replaces : Bool) (id : ℕ) (before after : List Event) : Type 0 where
  pub moves : ℕ
  pub few : moves ≤ MOST_MOVES
  pub last : List Event
  pub moved : SomeMoves config limits pass replaces id before last moves
  pub ended : ((moves ≡ MOST_MOVES) × IsFrontOf pass last after) ⊎ MovesNone config limits pass replaces id last after ⊎ LacksMemory config limits pass replaces id last after
