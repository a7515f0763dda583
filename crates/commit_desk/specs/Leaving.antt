-- Which documents of columns that are over are kept: those for which an open find may ask, and those that wait to be freed.
use Rattle.std.specs.Prelude.{◌≡◌, ℕ, ◌+◌, ◌*◌, ◌<◌, ◌⊎◌, Bool, true, false, List, length, Contains, Option, None, Some, Result, Ok, Err, MatchOption}
use Rattle.document_store.specs.Documents.{Parts}
use Rattle.document_store.specs.Leaving.{IsLeaving, LeavingState, kept_for, times_on, with_kept}
use Rattle.document_store.specs.Slots.{IsColumn, Table, is_over, slot_at, with_slot, without_doc}
use Rattle.document_store.specs.declared.column.Column.TheVariants as became
use Rattle.document_store.specs.declared.slots.Slot.{Slot}
use Rattle.funnel_model.specs.declared.event.Event.{Event}
use Rattle.funnel_model.specs.History.{Document}
use Rattle.funnel_model.specs.Slices.{Deleted, IsInState, IsLiveOn}
use Rattle.funnel_model.specs.Tokens.{HasToken}
use Rattle.slice_rule.specs.Pools.{PoolId}
use Rattle.token_manager.specs.Guarding.{IsNewestAsker, MayAsk, NoneMayAsk}
use Rattle.commit_desk.specs.declared.answers.DeleteFault.{DeleteFault}
use Rattle.commit_desk.specs.declared.answers.EndedMove.{EndedMove}
use Rattle.commit_desk.specs.declared.answers.EndedMove.TheVariants as ended
use Rattle.commit_desk.specs.declared.answers.Put.{Put}
use Rattle.commit_desk.specs.declared.answers.Put.TheVariants as put
use Rattle.commit_desk.specs.declared.look.Look.{Look}
use Rattle.commit_desk.specs.Kept.{Books, IsDesk}

-- the find with this token may ask for a document that came to its column at one event, and left it at a later one, if it did: it began between
abbrev pub IsAskedFor : List Event → ℕ → ℕ → Type 0
IsAskedFor history since until = (pass : ℕ) × (number : ℕ) × HasToken history pass number × (since < number) × (number < until)

-- a document that left its column, and for which no open find may ask, may go
pub record MayGo (history : List Event) (doc : Parts) : Type 0 where
  pub slice : ℕ
  pub column : ℕ
  pub document : Document
  pub since : ℕ
  pub until : ℕ
  pub left : IsInState history slice column (Deleted document since until)
  pub id : doc.id ≡ document.id
  pub text : doc.text ≡ document.text
  pub not_asked : IsAskedFor history since until → ⊥

-- An event takes the document with this number off its column. It is given back where no open find may ask for it, and is kept where one may:
-- all that are open began before the event.
pub record GivesBack (history : List Event) (document : Document) (since : ℕ) (gone : Option Parts) : Type 0 where
  pub goes : MatchOption gone ((pass : ℕ) × (number : ℕ) × HasToken history pass number × (since < number))
      (λ doc. (doc.id ≡ document.id) × (doc.text ≡ document.text) × ((pass number : ℕ) → HasToken history pass number → since < number → ⊥))

-- what becomes of the live document with a number that is deleted or replaced, or of the one in a column that is moved
abbrev pub GivesBackOld : List Event → ℕ → Option Parts → Type 0
GivesBackOld history id gone =
    (slice column : ℕ) (document : Document) (since : ℕ) → IsLiveOn history slice column document since → document.id ≡ id → GivesBack history document since gone

-- a delete gives its document back so, and one that is refused gives none back
abbrev pub GivesBackDeleted : List Event → ℕ → Result ℕ DeleteFault → Option Parts → Type 0
GivesBackDeleted history id (Ok place) gone = GivesBackOld history id gone
GivesBackDeleted history id (Err fault) gone = gone ≡ None

-- and so does a put, where it replaces a document
abbrev pub GivesBackReplaced : List Event → ℕ → Put → Option Parts → Type 0
GivesBackReplaced history id (put.Replaced place) gone = GivesBackOld history id gone
GivesBackReplaced history id (put.Added place) gone = gone ≡ None

-- whether the document was moved
abbrev pub is_moved : EndedMove → Bool
is_moved (ended.Moved _) = true
is_moved (ended.Void _) = false

-- a move gives the document of the old column back so, and one that came too late the copy
abbrev pub HandsBackMoved : List Event → Look → EndedMove → Type 0
HandsBackMoved history look (ended.Moved gone) = GivesBackOld history look.doc.id gone
HandsBackMoved history look (ended.Void doc) = doc ≡ look.doc

-- the number of a column among those of all slices
abbrev pub number_in : Table → ℕ → ℕ → ℕ
number_in table slice column = slice * table.columns + column

-- the column is over between these events
abbrev pub IsOverFrom : Slot → ℕ → ℕ → Type 0
IsOverFrom slot since until = (added : ℕ) × (slot.column ≡ became.Over added since until)

-- a find of the pass may ask for the document of the column
pub record MayAskFor (tokens : List (Option ℕ)) (slot : Slot) (pass : ℕ) : Type 0 where
  pub since : ℕ
  pub until : ℕ
  pub event : ℕ
  pub over : IsOverFrom slot since until
  pub may_ask : MayAsk tokens since until pass event

-- The documents of columns that are over are kept so: one for which an open find may ask is there; one that is there is on a list; and on the
-- list of a pass are columns alone for whose documents its find may ask. So what no find may ask for is gone, or is to be freed.
pub record AreKept (tokens : List (Option ℕ)) (table : Table) (leaving : LeavingState) : Type 0 where
  pub passes_are : length leaving.asked ≡ length tokens
  pub columns_are : leaving.columns ≡ table.slices * table.columns
  pub there : (slice column pass : ℕ) → IsColumn table slice column → MayAskFor tokens (slot_at table slice column) pass
      → (doc : Parts) × ((slot_at table slice column).doc ≡ Some doc)
  pub listed : (slice column : ℕ) (doc : Parts) → IsColumn table slice column → is_over (slot_at table slice column) ≡ true
      → (slot_at table slice column).doc ≡ Some doc → IsLeaving leaving (number_in table slice column)
  pub asked : (pass slice column : ℕ) → IsColumn table slice column → Contains (kept_for leaving pass) (number_in table slice column)
      → MayAskFor tokens (slot_at table slice column) pass

-- what is left of a column's record: all of it, but that the document may have gone where the column is over
pub record IsLeft (whole left : Slot) : Type 0 where
  pub column : left.column ≡ whole.column
  pub doc : (left.doc ≡ whole.doc) ⊎ ((is_over whole ≡ true) × (left.doc ≡ None))

-- and of all records
pub record IsLeftOf (whole left : Table) : Type 0 where
  pub slices : left.slices ≡ whole.slices
  pub columns : left.columns ≡ whole.columns
  pub out : left.out ≡ whole.out
  pub size : length left.slots ≡ length whole.slots
  pub each : (slice column : ℕ) → IsColumn whole slice column → IsLeft (slot_at whole slice column) (slot_at left slice column)

-- The desk of this pool, with this limit of events. Its books have what is left of the records of the columns. With the documents that have
-- gone these are the records of the history.
pub record IsKeepingDesk (pool : PoolId) (most : ℕ) (history : List Event) (books : Books) (leaving : LeavingState) : Type 0 where
  pub whole : Table
  pub desk : IsDesk pool most history (record books { table = whole })
  pub left : IsLeftOf whole books.table
  pub documents : AreKept books.tokens books.table leaving

-- the column is kept for a pass, unless it is on a list already
abbrev pub IsKeptOnce : Table → ℕ → ℕ → ℕ → LeavingState → LeavingState → Type 0
IsKeptOnce table slice column pass before after =
    (IsLeaving before (number_in table slice column) × (after ≡ before))
    ⊎ ((times_on before (number_in table slice column) ≡ 0) × (after ≡ with_kept before pass (number_in table slice column)))

-- the document of a column that is over is taken, since no open find may ask for it
pub record IsTaken (tokens : List (Option ℕ)) (slice column since until : ℕ) (before after : LeavingState) (table next : Table) (gone : Option Parts) : Type 0 where
  pub none_asks : NoneMayAsk tokens since until
  pub leaving : after ≡ before
  pub doc : gone ≡ (slot_at table slice column).doc
  pub table_is : next ≡ with_slot table slice column (without_doc (slot_at table slice column))

-- or it is kept for the newest of the finds that may ask for it
pub record IsKeptFor (tokens : List (Option ℕ)) (slice column since until : ℕ) (before after : LeavingState) (table next : Table) (gone : Option Parts) : Type 0 where
  pub pass : ℕ
  pub asker : IsNewestAsker tokens since until pass
  pub table_is : next ≡ table
  pub none_goes : gone ≡ None
  pub once : IsKeptOnce table slice column pass before after

abbrev pub LetsGo : List (Option ℕ) → (slice column since until : ℕ) → (before after : LeavingState) → (table next : Table) → Option Parts → Type 0
LetsGo tokens slice column since until before after table next gone =
    IsTaken tokens slice column since until before after table next gone ⊎ IsKeptFor tokens slice column since until before after table next gone
