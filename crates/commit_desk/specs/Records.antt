-- How the records of the columns and the list of live numbers stand for a history.
use Rattle.std.specs.Prelude.{◌≡◌, ℕ, ◌*◌, ◌<◌, true, false, List, length, replicate, Option, Some}
use Rattle.std.specs.Option.{option_map_or}
use Rattle.document_store.specs.Documents.{Parts}
use Rattle.document_store.specs.Entries.{Entries}
use Rattle.document_store.specs.Entries.{column_of as entry_of}
use Rattle.document_store.specs.Slots.{Table, FitsColumn, IsColumn, free_slot, is_out, slot_at, slots_of}
use Rattle.document_store.specs.declared.column.Column.{Column}
use Rattle.document_store.specs.declared.column.Column.TheVariants as became
use Rattle.document_store.specs.declared.slots.Slot.{Slot}
use Rattle.funnel_model.specs.declared.event.Event.{Event}
use Rattle.funnel_model.specs.History.{Document}
use Rattle.funnel_model.specs.Legal.{Limits}
use Rattle.funnel_model.specs.Slices.{ColumnState, Unclaimed, Pending, Dropped, Live, Deleted, IsInState, is_clearing}
use Rattle.funnel_model.specs.Words.{AreWordsOf}

-- a document that was added at this place
abbrev pub document_added_at : ℕ → Parts → Document
document_added_at added doc = record { id = doc.id; text = doc.text; place = added }

-- the state of the column that is recorded so
abbrev pub state_in : Column → Option Parts → ColumnState
state_in became.Free doc = Unclaimed
state_in (became.Pending pass) doc = Pending pass
state_in (became.Live added since) doc = option_map_or (λ d. Live (document_added_at added d) since) doc Unclaimed
state_in (became.Over added since until) doc = option_map_or (λ d. Deleted (document_added_at added d) since until) doc Unclaimed
state_in became.Dropped doc = Dropped

abbrev pub state_of : Slot → ColumnState
state_of slot = state_in slot.column slot.doc

-- the document is live in the column that is recorded so
pub record IsLiveIn (slot : Slot) (doc : Parts) : Type 0 where
  pub added : ℕ
  pub since : ℕ
  pub column : slot.column ≡ became.Live added since
  pub doc_is : slot.doc ≡ Some doc

-- a column is recorded with its state, and a document with the words of its text
pub record IsRecorded (history : List Event) (slice column : ℕ) (slot : Slot) : Type 0 where
  pub fits : FitsColumn slot.column slot.doc
  pub state : IsInState history slice column (state_of slot)
  pub words_of_text : (doc : Parts) → slot.doc ≡ Some doc → AreWordsOf doc.words doc.text

-- each column is recorded, but for those of slices that are being cleared: the slots of these, and of no others, were taken out
pub record AreRecorded (limits : Limits) (history : List Event) (table : Table) : Type 0 where
  pub slices_are : table.slices ≡ limits.slices
  pub columns_are : table.columns ≡ limits.columns
  pub size : length table.slots ≡ table.slices * table.columns
  pub out_size : length table.out ≡ table.slices
  pub each : (slice column : ℕ) → IsColumn table slice column → is_clearing slice history ≡ false → IsRecorded history slice column (slot_at table slice column)
  pub out : (slice : ℕ) → slice < table.slices → is_out table slice ≡ is_clearing slice history
  pub cleared : (slice : ℕ) → slice < table.slices → is_clearing slice history ≡ true → slots_of table slice ≡ replicate table.columns free_slot

-- the document with this number is live in the column
pub record IsEntry (table : Table) (id slice column : ℕ) : Type 0 where
  pub in_table : IsColumn table slice column
  pub doc : Parts
  pub live : IsLiveIn (slot_at table slice column) doc
  pub number : doc.id ≡ id

-- the live list has the number of each live document with its column, and no other
pub record AreListed (table : Table) (live : Entries) : Type 0 where
  pub slices_are : live.slices ≡ table.slices
  pub columns_are : live.columns ≡ table.columns
  pub listed : (id slice column : ℕ) → entry_of live id ≡ Some (slice, column) → IsEntry table id slice column
  pub every : (slice column : ℕ) (doc : Parts) → IsColumn table slice column → IsLiveIn (slot_at table slice column) doc → entry_of live doc.id ≡ Some (slice, column)
