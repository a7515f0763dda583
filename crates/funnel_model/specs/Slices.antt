-- The columns of a slice as a history leaves them, and when a slice is filled, cleared and retired.
use Rattle.std.specs.Prelude.{ℕ, ◌+◌, ◌<◌, ◌≡◌, ◌==◌, ◌&&◌, Bool, true, false, List, [], ◌∷◌, ◌++◌, length, Some, Contains, if◌then◌else◌}
use Rattle.std.specs.List.{filter_map, list_any, fold}
use Rattle.std.specs.Option.{is_some}
use Rattle.funnel_model.specs.declared.event.Event.{Event}
use Rattle.funnel_model.specs.Events.{pass_of, column_taken_in, takes, put_on, drops_on, takes_off, clears, opens}
use Rattle.funnel_model.specs.History.{Document, live}

-- the events since the slice was last opened, or all of them
abbrev pub span : ℕ → List Event → List Event
span slice history = fold (λ events e. if opens slice e then [] else events ++ e ∷ []) [] history

-- the columns of the slice that are claimed, in the order in which they were taken
abbrev pub claimed : ℕ → List Event → List ℕ
claimed slice history = filter_map (column_taken_in slice) (span slice history)

-- whether a column is claimed
abbrev pub is_claimed : ℕ → ℕ → List Event → Bool
is_claimed slice column history = list_any (λ c. c == column) (claimed slice history)

-- some of the slice's columns is unclaimed
abbrev pub HasUnclaimed : ℕ → ℕ → List Event → Type 0
HasUnclaimed columns slice history = (column : ℕ) × (column < columns) × (is_claimed slice column history ≡ false)

-- all of its columns are claimed
abbrev pub IsFilled : ℕ → ℕ → List Event → Type 0
IsFilled columns slice history = (column : ℕ) → column < columns → is_claimed slice column history ≡ true

-- the pass has claimed the column, and no event has put a document on it since, or left it without
pub record IsPending (history : List Event) (slice column pass : ℕ) : Type 0 where
  pub taken : list_any (takes pass slice column) (span slice history) ≡ true
  pub not_put : list_any (λ e. is_some (put_on slice column e)) (span slice history) ≡ false
  pub not_dropped : list_any (drops_on slice column) (span slice history) ≡ false

-- the event with the number `since` puts this document on the column, and the document is live then; after it come these events, none of
-- which opens the slice
pub record IsPutOn (history : List Event) (slice column : ℕ) (document : Document) (since : ℕ) (later : List Event) : Type 0 where
  pub earlier : List Event
  pub event : Event
  pub whole : history ≡ earlier ++ event ∷ later
  pub count : since ≡ length earlier + 1
  pub puts : put_on slice column event ≡ Some document.id
  pub lives : Contains (live (earlier ++ event ∷ [])) document
  pub stays : list_any (opens slice) later ≡ false

-- no later event takes the document off the column on which it was put
pub record IsLiveOn (history : List Event) (slice column : ℕ) (document : Document) (since : ℕ) : Type 0 where
  pub later : List Event
  pub put : IsPutOn history slice column document since later
  pub not_taken_off : list_any (takes_off document.id) later ≡ false

-- the home of the live document with this number: the column on which it was put, and from which nothing took it off
abbrev pub IsHome : List Event → ℕ → ℕ → ℕ → Type 0
IsHome history id slice column = (document : Document) × (since : ℕ) × (document.id ≡ id) × IsLiveOn history slice column document since

-- a later event takes the document off the column on which it was put; the first that does has the number `until`
pub record IsDeletedOn (history : List Event) (slice column : ℕ) (document : Document) (since until : ℕ) : Type 0 where
  pub between : List Event
  pub event : Event
  pub later : List Event
  pub put : IsPutOn history slice column document since (between ++ event ∷ later)
  pub not_before : list_any (takes_off document.id) between ≡ false
  pub takes_it_off : takes_off document.id event ≡ true
  pub count : until ≡ since + length between + 1

-- The states of a column. It is pending by the pass that claimed it. It is live or deleted with its document and the number of the event
-- that put it there. It is deleted where the document was deleted, replaced or moved away since, with the number of the event that took it
-- off
pub data ColumnState : Type 0 where
  Unclaimed : ColumnState
  Pending : ℕ → ColumnState
  Dropped : ColumnState
  Live : Document → ℕ → ColumnState
  Deleted : Document → ℕ → ℕ → ColumnState

-- the column is in this state
abbrev pub IsInState : List Event → ℕ → ℕ → ColumnState → Type 0
IsInState history slice column Unclaimed = is_claimed slice column history ≡ false
IsInState history slice column (Pending pass) = IsPending history slice column pass
IsInState history slice column Dropped = list_any (drops_on slice column) (span slice history) ≡ true
IsInState history slice column (Live document since) = IsLiveOn history slice column document since
IsInState history slice column (Deleted document since until) = IsDeletedOn history slice column document since until

-- the column has no live and no pending document, and gets none until the slice is opened again
abbrev pub IsOver : ColumnState → Type 0
IsOver Dropped = Unit {0}
IsOver (Deleted document since until) = Unit {0}
IsOver _ = ⊥

-- each column of the slice is over
abbrev pub AllOver : ℕ → ℕ → List Event → Type 0
AllOver columns slice history =
    (column : ℕ) → column < columns → (state : ColumnState) × IsInState history slice column state × IsOver state

-- whether a pass has begun to clear the slice and not opened it yet
abbrev pub is_clearing : ℕ → List Event → Bool
is_clearing slice history = list_any (clears slice) (span slice history)

-- whether this pass has
abbrev pub is_clearing_by : ℕ → ℕ → List Event → Bool
is_clearing_by pass slice history = list_any (λ e. pass_of e == pass && clears slice e) (span slice history)

-- each column of the slice is over, and it isn't being cleared yet
pub record IsRetired (columns slice : ℕ) (history : List Event) : Type 0 where
  pub over : AllOver columns slice history
  pub not_clearing : is_clearing slice history ≡ false

-- documents may be read and added there: the slice is neither retired nor being cleared
pub record IsInUse (columns slice : ℕ) (history : List Event) : Type 0 where
  pub not_retired : IsRetired columns slice history → ⊥
  pub not_clearing : is_clearing slice history ≡ false

-- the number of the event at which the slice retired: not all columns are over before it, and all are after it; neither it nor
-- a later event opens the slice
pub record IsRetiredAt (columns slice : ℕ) (history : List Event) (number : ℕ) : Type 0 where
  pub earlier : List Event
  pub event : Event
  pub later : List Event
  pub whole : history ≡ earlier ++ event ∷ later
  pub count : number ≡ length earlier + 1
  pub stays : list_any (opens slice) (event ∷ later) ≡ false
  pub not_before : AllOver columns slice earlier → ⊥
  pub over : AllOver columns slice (earlier ++ event ∷ [])
