-- Which document is moved next so that its slice retires, and what the turns of a move answer.
use Rattle.std.specs.Prelude.{◌≡◌, ◌≢◌, ℕ, ◌+◌, ◌/◌, ◌<◌, ◌≤◌, ◌⊎◌, ◌==◌, ◌&&◌, Bool, true, false, List, [], ◌∷◌, length, slice_set, nat_lt, MatchOption, Option, Some, None, Result, Ok, Err}
use Rattle.std.specs.List.{list_any}
use mathlib.Core.List.{IsPrefix}
use Rattle.funnel_model.specs.declared.bit_list.Bit.{Bit}
use Rattle.funnel_model.specs.declared.claim.Claim.{Claim}
use Rattle.funnel_model.specs.declared.event.Event.{Event}
use Rattle.funnel_model.specs.declared.event.Event.TheVariants as event
use Rattle.funnel_model.specs.declared.memory.Memory.{Memory}
use Rattle.funnel_model.specs.History.{Document, has_cause}
use Rattle.funnel_model.specs.Legal.{HasRoom, Limits, MayTake}
use Rattle.funnel_model.specs.Reserve.{HasReadyColumns, HasSpareColumns, HoldsColumns, IsSource}
use Rattle.funnel_model.specs.Slices.{IsFilled, IsInState, Live}
use Rattle.funnel_model.specs.Words.{AreWordsOf}
use Rattle.slice_rule.specs.Seats.{PassState}
use Rattle.commit_desk.specs.Answers.{MayEnter, TakesCalls}
use Rattle.commit_desk.specs.declared.answers.NotTaken.{NotTaken}
use Rattle.commit_desk.specs.declared.answers.NotTaken.TheVariants as untaken
use Rattle.commit_desk.specs.declared.answers.TakenMove.{TakenMove}
use Rattle.commit_desk.specs.declared.look.Look.{Look}
use Rattle.commit_desk.specs.Records.{document_added_at}

-- the document as the history has it
abbrev pub document_of : Look → Document
document_of look = document_added_at look.place look.doc

-- for each pass the slice and the column that its open look names, if it has one open
abbrev pub LooksState : Type 0
LooksState = List (Option (ℕ × ℕ))

-- whether it is this column that is named
abbrev pub names : ℕ → ℕ → Option (ℕ × ℕ) → Bool
names slice column None = false
names slice column (Some named) = named.0 == slice && named.1 == column

-- whether an open look names the column
abbrev pub is_named : LooksState → ℕ → ℕ → Bool
is_named looks slice column = list_any (names slice column) looks

-- the looks with another for one pass
abbrev pub with_look : LooksState → ℕ → Option (ℕ × ℕ) → LooksState
with_look looks pass named = slice_set looks pass named

-- how many columns have to be ready so that a slice can be emptied of which so many are held: these, and one more for each sixteen of them
abbrev pub room_to_empty : ℕ → ℕ
room_to_empty held = held + (held + 15) / 16

-- The ready columns suffice for emptying the slice.
pub record HasRoomToEmpty (limits : Limits) (history : List Event) (slice : ℕ) : Type 0 where
  pub held : ℕ
  pub holds : HoldsColumns limits.columns history slice held
  pub ready : ℕ
  pub are_ready : HasReadyColumns limits history ready
  pub enough : room_to_empty held ≤ ready

-- they don't
pub record LacksRoomToEmpty (limits : Limits) (history : List Event) (slice : ℕ) : Type 0 where
  pub held : ℕ
  pub holds : HoldsColumns limits.columns history slice held
  pub ready : ℕ
  pub are_ready : HasReadyColumns limits history ready
  pub fewer : ready < room_to_empty held

-- Documents are to be moved out of the slice, of which so many columns are held, before a document with this number is added or put: nothing
-- but want of room keeps that one out; fewer columns are spare than are to be kept free; the slice is the next to be emptied; and there is room
-- to do so.
pub record IsToBeEmptied (reserve most : ℕ) (limits : Limits) (history : List Event) (replaces : Bool) (id slice held : ℕ) : Type 0 where
  pub may : MayEnter most history replaces id
  pub short : (spare : ℕ) × HasSpareColumns limits history spare × (spare < reserve)
  pub source : IsSource limits history slice held
  pub room : HasRoomToEmpty limits history slice

-- the column has this live document, since the event with this number, and no open look names it
pub record IsFreeToMove (limits : Limits) (looks : LooksState) (history : List Event) (slice column : ℕ) (document : Document) (since : ℕ) : Type 0 where
  pub in_range : column < limits.columns
  pub live : IsInState history slice column (Live document since)
  pub unnamed : is_named looks slice column ≡ false

-- it is the lowest such column of its slice
pub record IsLowestFree (limits : Limits) (looks : LooksState) (history : List Event) (slice column : ℕ) (document : Document) (since : ℕ) : Type 0 where
  pub free : IsFreeToMove limits looks history slice column document since
  pub lowest : (lower : ℕ) (other : Document) (at : ℕ) → lower < column → IsFreeToMove limits looks history slice lower other at → ⊥

-- the column has some such document
abbrev pub HasOneToMove : Limits → LooksState → List Event → ℕ → ℕ → Type 0
HasOneToMove limits looks history slice column = (document : Document) × (since : ℕ) × IsFreeToMove limits looks history slice column document since

-- some column of the slice is live
abbrev pub HasLive : ℕ → List Event → ℕ → Type 0
HasLive columns history slice = (column : ℕ) × (document : Document) × (since : ℕ) × (column < columns) × IsInState history slice column (Live document since)

-- the column is the lowest of its slice that is live
pub record IsLowestLive (columns : ℕ) (history : List Event) (slice column : ℕ) : Type 0 where
  pub in_range : column < columns
  pub live : (document : Document) × (since : ℕ) × IsInState history slice column (Live document since)
  pub lowest : (lower : ℕ) (other : Document) (at : ℕ) → lower < column → IsInState history slice lower (Live other at) → ⊥

-- it is that column, or there is none
abbrev pub IsLowestLiveOrNone : ℕ → List Event → ℕ → Option ℕ → Type 0
IsLowestLiveOrNone columns history slice found = MatchOption found (HasLive columns history slice → ⊥) (IsLowestLive columns history slice)

-- open looks name each live column of the slice, of which this is the lowest
pub record IsNamedAgain (limits : Limits) (looks : LooksState) (history : List Event) (slice column : ℕ) : Type 0 where
  pub none_free : (other : ℕ) (document : Document) (since : ℕ) → IsFreeToMove limits looks history slice other document since → ⊥
  pub lowest : IsLowestLive limits.columns history slice column

-- The column is the next of its slice whose document is moved: it has this live document, since the event with this number, and is the lowest
-- that no open look names. Where looks name each, it is the lowest live one again: a pass that stands still with its look keeps no other from
-- moving what it looked at.
pub record IsNextToMove (limits : Limits) (looks : LooksState) (history : List Event) (slice column : ℕ) (document : Document) (since : ℕ) : Type 0 where
  pub live : IsInState history slice column (Live document since)
  pub next : IsLowestFree limits looks history slice column document since ⊎ IsNamedAgain limits looks history slice column

-- this document is the next to be moved
pub record IsNextLook (reserve most : ℕ) (limits : Limits) (looks : LooksState) (history : List Event) (replaces : Bool) (id slice column : ℕ)
    (document : Document) (since : ℕ) : Type 0 where
  pub held : ℕ
  pub empties : IsToBeEmptied reserve most limits history replaces id slice held
  pub next : IsNextToMove limits looks history slice column document since

-- documents are to be moved out of some slice
abbrev pub SomeToBeMoved : ℕ → ℕ → Limits → List Event → Bool → ℕ → Type 0
SomeToBeMoved reserve most limits history replaces id = (slice : ℕ) × (held : ℕ) × IsToBeEmptied reserve most limits history replaces id slice held

-- and out of none
abbrev pub NoneToMove : ℕ → ℕ → Limits → List Event → Bool → ℕ → Type 0
NoneToMove reserve most limits history replaces id = (slice held : ℕ) → IsToBeEmptied reserve most limits history replaces id slice held → ⊥

-- the look is at the next document to be moved
abbrev pub IsLookAtNext : ℕ → ℕ → Limits → LooksState → List Event → Bool → ℕ → Look → Type 0
IsLookAtNext reserve most limits looks history replaces id look =
    IsNextLook reserve most limits looks history replaces id look.slice look.column (document_of look) look.since

-- a pass looks at the next document to be moved before it adds or puts one with this number; want of memory is answered only where there is such
-- a document
abbrev pub AnswersLook : ℕ → ℕ → Limits → LooksState → List Event → ℕ → Bool → ℕ → Result (Option Look) Memory → Type 0
AnswersLook reserve most limits looks history pass replaces id (Ok (Some look)) =
    IsLookAtNext reserve most limits looks history replaces id look × (look.opened ≡ pass)
AnswersLook reserve most limits looks history pass replaces id (Ok None) = NoneToMove reserve most limits history replaces id
AnswersLook reserve most limits looks history pass replaces id (Err memory) = SomeToBeMoved reserve most limits history replaces id

-- the looks after it: that of the pass names the column that is looked at
abbrev pub looks_after : LooksState → Result (Option Look) Memory → LooksState
looks_after looks (Ok (Some look)) = with_look looks look.opened (Some (look.slice, look.column))
looks_after looks _ = looks

-- the pass has seen the document where it looked: the document was put there by the event with this number, and has the words of its
-- text; and a document had been deleted or dropped by then
pub record HoldsLook (seat : PassState) (look : Look) : Type 0 where
  pub earlier : List Event
  pub seen : IsPrefix earlier seat.front
  pub live : IsInState earlier look.slice look.column (Live (document_of look) look.since)
  pub of_text : AreWordsOf look.doc.words look.doc.text
  pub cause : has_cause seat.front ≡ true

-- the document is live still in the column that was looked at, by the very event that put it there then
abbrev pub IsThereStill : List Event → Look → Type 0
IsThereStill history look = (document : Document) × (document.id ≡ look.doc.id) × IsInState history look.slice look.column (Live document look.since)

-- A pass may claim the column for the document that it looked at: as for an add, while the document is there still, in another slice than its
-- own, and while there is room to empty that one.
pub record MayTakeFor (most : ℕ) (limits : Limits) (history : List Event) (pass : ℕ) (look : Look) (slice column : ℕ) : Type 0 where
  pub takes_calls : TakesCalls most history
  pub may : MayTake limits history pass slice column
  pub there : IsThereStill history look
  pub other : slice ≢ look.slice
  pub room : HasRoomToEmpty limits history look.slice

-- it may claim one
abbrev pub MayTakeSome : ℕ → Limits → List Event → ℕ → Look → Type 0
MayTakeSome most limits history pass look = (slice : ℕ) × (column : ℕ) × MayTakeFor most limits history pass look slice column

-- why it may claim none: calls are taken no more, the document isn't there any more, no slice has room, the lowest that has is the document's
-- own, or there isn't room any more to empty that one
abbrev pub MayTakeNone : ℕ → Limits → List Event → ℕ → Look → Type 0
MayTakeNone most limits history pass look =
    (most ≤ length history) ⊎ (IsThereStill history look → ⊥) ⊎ ((slice : ℕ) → slice < limits.slices → HasRoom limits.columns history slice → ⊥)
    ⊎ ((column : ℕ) × MayTake limits history pass look.slice column) ⊎ LacksRoomToEmpty limits history look.slice

-- For a move a column is claimed where one may be; else nothing is done, and the document is handed back. Want of memory is answered only
-- where a column may be claimed.
abbrev pub AnswersTakeMove : ℕ → Limits → List Event → ℕ → Look → Result TakenMove NotTaken → Type 0
AnswersTakeMove most limits history pass look (Ok taken) =
    MayTakeFor most limits history pass look taken.claim.slice taken.claim.column × (taken.look ≡ look)
AnswersTakeMove most limits history pass look (Err (untaken.NoColumn doc)) = MayTakeNone most limits history pass look × (doc ≡ look.doc)
AnswersTakeMove most limits history pass look (Err (untaken.Memory doc)) = MayTakeSome most limits history pass look × (doc ≡ look.doc)

abbrev pub events_of_take_move : ℕ → Result TakenMove NotTaken → List Event
events_of_take_move pass (Ok taken) = event.Take pass taken.claim.slice taken.claim.column ∷ []
events_of_take_move pass (Err fault) = []

-- the look ends where no column was claimed
abbrev pub looks_after_take : LooksState → Look → Result TakenMove NotTaken → LooksState
looks_after_take looks look (Ok taken) = looks
looks_after_take looks look (Err fault) = with_look looks look.opened None

-- a move that came too late leaves its column void
abbrev pub event_of_move : ℕ → Look → Claim → List Bit → Bool → Event
event_of_move pass look claim bits true = event.Move pass look.doc.id claim.slice claim.column bits
event_of_move pass look claim bits false = event.Void pass claim.slice claim.column

-- of a filled slice so many columns are held, and not all
pub record IsPartlyHeld (columns : ℕ) (history : List Event) (slice held : ℕ) : Type 0 where
  pub filled : IsFilled columns slice history
  pub holds : HoldsColumns columns history slice held
  pub some : 1 ≤ held
  pub fewer : held < columns

-- whether so many are fewer than those of the source so far, where there is one
abbrev pub is_fewer : ℕ → Option (ℕ × ℕ) → Bool
is_fewer held None = true
is_fewer held (Some source) = nat_lt held source.1
