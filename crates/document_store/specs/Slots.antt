-- What is kept of each column of each slice.
use Rattle.std.specs.Prelude.{ℕ, ◌+◌, ◌*◌, ◌<◌, ◌≤◌, ◌≡◌, ⊤, Bool, true, false, List, ◌++◌, length, take, drop, replicate, map, slice_set, slice_index, slice_index_or, Option, None, Some}
use Rattle.std.specs.List.{All, flat_map}
use Rattle.std.specs.Option.{is_none}
use Rattle.document_store.specs.Documents.{Parts}
use Rattle.document_store.specs.declared.column.Column.{Column}
use Rattle.document_store.specs.declared.column.Column.TheVariants as column
use Rattle.document_store.specs.declared.slots.Slot.{Slot}

-- so many slices of so many columns; the slots stand slice after slice, in the order of the columns; and for each slice whether its
-- slots were taken out
pub record Table : Type 0 where
  pub slices : ℕ
  pub columns : ℕ
  pub slots : List Slot
  pub out : List Bool

-- the column is one of the table
pub record IsColumn (table : Table) (slice at : ℕ) : Type 0 where
  pub slice_in_range : slice < table.slices
  pub column_in_range : at < table.columns

-- a column that no pass has claimed
abbrev pub free_slot : Slot
free_slot = record { column = column.Free; doc = None }

-- what is kept of a column
abbrev pub slot_at : Table → ℕ → ℕ → Slot
slot_at table slice at = slice_index_or table.slots (slice * table.columns + at) free_slot

-- the slots of a slice
abbrev pub slots_of : Table → ℕ → List Slot
slots_of table slice = take table.columns (drop (slice * table.columns) table.slots)

-- the table with another slot for one column
abbrev pub with_slot : Table → ℕ → ℕ → Slot → Table
with_slot table slice at slot = record table { slots = slice_set table.slots (slice * table.columns + at) slot }

-- whether the slots of the slice were taken out
abbrev pub is_out : Table → ℕ → Bool
is_out table slice = slice_index_or table.out slice false

-- the table with the slots of a slice taken out: all its columns are free
abbrev pub without_slice : Table → ℕ → Table
without_slice table slice = record table {
  slots = take (slice * table.columns) table.slots ++ (replicate table.columns free_slot ++ drop ((slice + 1) * table.columns) table.slots);
  out = slice_set table.out slice true;
}

-- the table with free slots put back for the slice
abbrev pub with_slice : Table → ℕ → Table
with_slice table slice = record table { out = slice_set table.out slice false }

-- a document is that of a column: a live one has it, one that is over had it, since it was deleted, replaced or moved away, and no other has one
abbrev pub FitsColumn : Column → Option Parts → Type 0
FitsColumn (column.Live place since) doc = (d : Parts) × (doc ≡ Some d)
FitsColumn (column.Over place since until) doc = (d : Parts) × (doc ≡ Some d)
FitsColumn _ doc = doc ≡ None

-- and this is there of it: a live one's document is, and that of one that is over may have gone
abbrev pub MayHold : Column → Option Parts → Type 0
MayHold (column.Live place since) doc = (d : Parts) × (doc ≡ Some d)
MayHold (column.Over place since until) doc = ⊤
MayHold _ doc = doc ≡ None

-- what is kept of a column has its document, unless that has gone
abbrev pub HasDocRightly : Slot → Type 0
HasDocRightly slot = MayHold slot.column slot.doc

-- whether the column is over: its document was deleted or moved away, or it got none
abbrev pub is_over_in : Column → Bool
is_over_in (column.Over place since until) = true
is_over_in column.Dropped = true
is_over_in _ = false

abbrev pub is_over : Slot → Bool
is_over slot = is_over_in slot.column

-- a document is live in the column
abbrev pub IsLiveColumn : Column → Type 0
IsLiveColumn (column.Live place since) = ⊤
IsLiveColumn _ = ⊥

-- what is kept of a column once its document has gone
abbrev pub without_doc : Slot → Slot
without_doc slot = record slot { doc = None }

-- from one slot on up to another each is over, and that one isn't, unless it stands past the last
pub record ComesPastOver (slots : List Slot) (from to : ℕ) : Type 0 where
  pub onward : from ≤ to
  pub within : to ≤ length slots
  pub over : (at : ℕ) → from ≤ at → at < to → is_over (slice_index_or slots at free_slot) ≡ true
  pub next : to < length slots → is_over (slice_index_or slots to free_slot) ≡ false

-- each column has its slot, each slot's document fits, and of each slice it is known how many of its first columns are over
pub record IsTable (table : Table) (first_over : List ℕ) : Type 0 where
  pub every_column : length table.slots ≡ table.slices * table.columns
  pub docs : All HasDocRightly table.slots
  pub every_slice : length first_over ≡ table.slices
  pub passed : (slice : ℕ) → slice < table.slices → ComesPastOver (slots_of table slice) 0 (slice_index first_over slice)

-- the slots of a slice, by those that are held for it: where they were taken out, all are free
abbrev pub shown : ℕ → Option (List Slot) → List Slot
shown columns None = replicate columns free_slot
shown columns (Some slots) = slots

-- the table that is held so, slice by slice
abbrev pub table_of : ℕ → ℕ → List (Option (List Slot)) → Table
table_of slices columns held = record { slices = slices; columns = columns; slots = flat_map (shown columns) held; out = map is_none held }

-- each slice has its slots, or they were taken out
pub record AreHeld (slices columns : ℕ) (held : List (Option (List Slot))) : Type 0 where
  pub every_slice : length held ≡ slices
  pub every_column : All (λ slots. length (shown columns slots) ≡ columns) held
