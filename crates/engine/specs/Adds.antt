-- The turns of an add at the desk: those of its moves, and those for its own document; a put has the first of these too.
use Rattle.std.specs.Prelude.{◌≡◌, ℕ, zero, suc, ◌*◌, ◌≤◌, ◌⊎◌, Bool, false, List, [], length, IfSome, Option, Result, Ok, Err}
use Rattle.document_store.specs.Documents.{Parts}
use Rattle.funnel_model.specs.declared.bit_list.Bit.{Bit}
use Rattle.funnel_model.specs.declared.claim.Claim.{Claim}
use Rattle.funnel_model.specs.declared.config.Config.{Config}
use Rattle.funnel_model.specs.declared.event.Event.{Event}
use Rattle.funnel_model.specs.History.{IsFrontOf}
use Rattle.funnel_model.specs.Legal.{IsFull, Limits}
use Rattle.funnel_model.specs.Slices.{is_clearing}
use Rattle.funnel_model.specs.Words.{AreWordsOf}
use Rattle.commit_desk.specs.Answers.{AnswersCommit, AnswersLastTake, AnswersTake, IsBeingCleared, NoneIsCleared, events_of_commit, events_of_opened_take, events_of_take}
use Rattle.commit_desk.specs.declared.answers.AddFault.{AddFault}
use Rattle.commit_desk.specs.declared.answers.AddFault.TheVariants as add
use Rattle.commit_desk.specs.declared.answers.CommitFault.{CommitFault}
use Rattle.commit_desk.specs.declared.answers.CommitFault.TheVariants as commit
use Rattle.commit_desk.specs.declared.answers.Taken.{Taken}
use Rattle.commit_desk.specs.declared.answers.Taken.TheVariants as taken
use Rattle.commit_desk.specs.Desks.{HandsBackWith}
use Rattle.engine.specs.Moves.{AreBitsAt, MovesAll}
use Rattle.row_layout.specs.declared.row.TheConstants.{MOST_ROWS}
use Rattle.row_layout.specs.DocumentBits.{BitsState}
use Rattle.row_layout.specs.Layouts.{LayoutId}
use Rattle.slice_recycler.specs.Turns.{IsTurn}
use Rattle.slice_rule.specs.Pools.{PoolId}

-- a document that is to be added: its set of words is that of its text, and there is room for their bits, of which none is there yet
pub record IsToBeAdded (doc : Parts) (bits : BitsState) : Type 0 where
  pub of_text : AreWordsOf doc.words doc.text
  pub no_bits : bits.bits ≡ []
  pub room : MOST_ROWS * length doc.words ≤ bits.room

-- the desk's answer to a document with this number, in the turn of its add, or of its put where it replaces, that looks for a column for the
-- last time
abbrev pub TurnOfTake : Limits → ℕ → Bool → ℕ → List ℕ → List Event → List Event → Taken → Type 0
TurnOfTake limits pass replaces id text before after answer =
    IsTurn pass before after (λ history. AnswersTake limits.events limits history pass replaces id answer) (events_of_take pass replaces id text answer)

-- the slice isn't being cleared any more, where one is named
abbrev pub IsOpenAgain : List Event → Option ℕ → Type 0
IsOpenAgain history awaited = IfSome awaited (λ slice. is_clearing slice history ≡ false)

-- the desk's answer to a look of an add or a put for a column, which came once this slice was open; with a slice to clear it gets the layout of the
-- slice's older treatment, where no other slice has that
pub record IsLookForRoom (pool : PoolId) (pass : ℕ) (replaces : Bool) (id : ℕ) (awaited : Option ℕ) (last : Bool) (answer : Taken) (history : List Event) : Type 0 where
  pub is_open : IsOpenAgain history awaited
  pub look : AnswersLastTake pool.limits.events pool.limits history pass replaces id last answer
  pub old : HandsBackWith pool history answer

-- an add or a put waited once: the engine was full and a slice was being cleared, and it looked again when that slice was open
pub record WaitsOnce (limits : Limits) (pass : ℕ) (before opened : List Event) : Type 0 where
  pub full : List Event
  pub slice : ℕ
  pub seen : IsFrontOf pass before full
  pub is_full : IsFull limits full
  pub clearing : IsBeingCleared limits full slice
  pub later : IsFrontOf pass full opened
  pub is_open : is_clearing slice opened ≡ false

-- it waited so often, one time after another, before it looked at this history
abbrev pub HasWaited : Limits → ℕ → List Event → List Event → ℕ → Type 0
HasWaited limits pass before history zero = IsFrontOf pass before history
HasWaited limits pass before history (suc waits) = (opened : List Event) × WaitsOnce limits pass before opened × HasWaited limits pass opened history waits

-- it is refused as full only where no slice is being cleared, or where it has waited as often as there are passes
abbrev pub MayRefuse : Limits → ℕ → List Event → List Event → AddFault → Type 0
MayRefuse limits pass before history (add.Full blocks) = NoneIsCleared limits history ⊎ HasWaited limits pass before history limits.passes
MayRefuse limits pass before history fault = Unit {0}

-- the add or the put was refused so, after it had waited as often as it had to
pub record RefusedTurn (limits : Limits) (pass : ℕ) (replaces : Bool) (id : ℕ) (text : List ℕ) (before after : List Event) (fault : AddFault) : Type 0 where
  pub turn : TurnOfTake limits pass replaces id text before after (taken.Refused fault)
  pub may : MayRefuse limits pass before turn.earlier fault

-- what an add or a put came to that looked for a column
abbrev pub TakeTurns : Limits → ℕ → Bool → ℕ → List ℕ → List Event → List Event → Taken → Type 0
TakeTurns limits pass replaces id text before after (taken.Wait slice) = ⊥
TakeTurns limits pass replaces id text before after (taken.Refused fault) = RefusedTurn limits pass replaces id text before after fault
TakeTurns limits pass replaces id text before after answer = TurnOfTake limits pass replaces id text before after answer

-- the pass took this column in that turn
pub record TakesFirst (limits : Limits) (pass : ℕ) (replaces : Bool) (id : ℕ) (text : List ℕ) (before after : List Event) (claim : Claim) : Type 0 where
  pub layout : LayoutId
  pub took : TurnOfTake limits pass replaces id text before after (taken.Claim claim layout)

-- the pass cleared a slice, opened it, and took its first column
pub record ClearsFirst (limits : Limits) (pass : ℕ) (replaces : Bool) (id : ℕ) (text : List ℕ) (before after : List Event) (claim : Claim) : Type 0 where
  pub layout : LayoutId
  pub old_layout : Option LayoutId
  pub middle : List Event
  pub cleared : TurnOfTake limits pass replaces id text before middle
      (taken.Clear (record { job = record { slice = claim.slice }; slots = limits.columns; old_layout = old_layout }) layout)
  pub opened : IsTurn pass middle after (λ history. Unit {0}) (events_of_opened_take pass claim.slice)
  pub first : claim.column ≡ 0

-- the pass took a column: at once, or after it cleared a slice
abbrev pub ClaimTurns : Limits → ℕ → Bool → ℕ → List ℕ → List Event → List Event → Claim → Type 0
ClaimTurns limits pass replaces id text before after claim =
    TakesFirst limits pass replaces id text before after claim ⊎ ClearsFirst limits pass replaces id text before after claim

-- the add came to its last turn, and was answered so there: the document was added with exactly its bits, by the treatment that its slice
-- had when the pass had claimed the column, or dropped
pub record CommitTurns (config : Config) (limits : Limits) (pass id : ℕ) (text : List ℕ) (before after : List Event) (answer : Result ℕ CommitFault) : Type 0 where
  pub claim : Claim
  pub bits : List Bit
  pub middle : List Event
  pub claimed : ClaimTurns limits pass false id text before middle claim
  pub of_text : AreBitsAt config limits middle text claim bits
  pub committed : IsTurn pass middle after (λ history. AnswersCommit history id answer) (events_of_commit pass id text claim bits answer)

-- what an add is answered whose document was dropped so
abbrev pub fault_of_drop : CommitFault → AddFault
fault_of_drop (commit.Present added) = add.Present added

-- The turns of an add for its own document. One that is answered by its place was added in its last turn. It is refused as present in the
-- turn that looks for a column or in its last, and in the first of these as spent, for want of memory for the layout of its slice, and as
-- full, after it had waited for slices that were being cleared.
abbrev pub OwnTurns : Config → Limits → ℕ → ℕ → List ℕ → List Event → List Event → Result ℕ AddFault → Type 0
OwnTurns config limits pass id text before after (Ok added) = CommitTurns config limits pass id text before after (Ok added)
OwnTurns config limits pass id text before after (Err (add.Present added)) =
    TurnOfTake limits pass false id text before after (taken.Refused (add.Present added))
    ⊎ CommitTurns config limits pass id text before after (Err (commit.Present added))
OwnTurns config limits pass id text before after (Err (add.Full blocks)) = RefusedTurn limits pass false id text before after (add.Full blocks)
OwnTurns config limits pass id text before after (Err (add.Spent events)) = TurnOfTake limits pass false id text before after (taken.Refused (add.Spent events))
OwnTurns config limits pass id text before after (Err add.Memory) = TurnOfTake limits pass false id text before after (taken.Refused add.Memory)

-- the add moved documents, and then came its own turns
pub record MovesFirst (config : Config) (limits : Limits) (pass id : ℕ) (text : List ℕ) (before after : List Event) (answer : Result ℕ AddFault) : Type 0 where
  pub middle : List Event
  pub moves : MovesAll config limits pass false id before middle
  pub own : OwnTurns config limits pass id text middle after answer

-- The turns of an add. Where no memory was found for it nothing was done, and nothing was moved; or none was found for the layout of its
-- slice, after the moves.
abbrev pub AddTurns : Config → Limits → ℕ → ℕ → List ℕ → List Event → List Event → Result ℕ AddFault → Type 0
AddTurns config limits pass id text before after (Err add.Memory) = (before ≡ after) ⊎ MovesFirst config limits pass id text before after (Err add.Memory)
AddTurns config limits pass id text before after answer = MovesFirst config limits pass id text before after answer
