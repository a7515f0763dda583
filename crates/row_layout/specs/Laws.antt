-- What the bits of a document say of the bits of other words, and which bits tell a word.
use Rattle.std.specs.Prelude.{◌≡◌, ℕ, ◌%◌, ◌<◌, ◌≤◌, true, false, List, Contains}
use Rattle.std.specs.List.{list_any}
use Rattle.funnel_model.specs.Configuration.{IsInRange}
use Rattle.funnel_model.specs.Events.{bits_on, clears}
use Rattle.funnel_model.specs.History.{Document}
use Rattle.funnel_model.specs.Legal.{Limits, IsAllowed, IsLegal}
use Rattle.funnel_model.specs.RowWords.{IsSetIn}
use Rattle.funnel_model.specs.Searches.{Search, AreAlike, is_kept, may, sure}
use Rattle.funnel_model.specs.Slices.{IsLiveOn, IsPutOn}
use Rattle.funnel_model.specs.Tunings.{treat}
use Rattle.funnel_model.specs.Words.{words, meets}
use Rattle.funnel_model.specs.declared.bit_list.Bit.{Bit}
use Rattle.funnel_model.specs.declared.config.Config.{Config}
use Rattle.funnel_model.specs.declared.event.Event.{Event}
use Rattle.funnel_model.specs.declared.event.Event.TheVariants as event
use Rattle.funnel_model.specs.Sizes.{columns_of_slice, words_of_slice}
use Rattle.row_layout.specs.AtomReads.{AtomRead, WasReadAfter, is_known, is_ruled_out}
use Rattle.row_layout.specs.DocumentBits.{AreDocumentBitsIn, IsDocumentBitIn, bit_of_row}
use Rattle.row_layout.specs.Owners.{IsOfExactWord, KeepToOwners, Owns, OwnsIn, is_exact}
use Rattle.row_layout.specs.Rows.{IsPrivateRow, IsRowOf, rows_of_word}
use Rattle.row_layout.specs.Sound.{HasItsBits, IsSound}
use Rattle.row_layout.specs.declared.row.Row.{Row}

-- the bits of each set of words of a document are bits of the document
abbrev pub DocumentsHaveBitsOfParts : Type 0
DocumentsHaveBitsOfParts =
    (room : ℕ) (config : Config) (part whole : List (List ℕ)) → ((word : List ℕ) → Contains part word → Contains whole word)
    → (slice column : ℕ) (bit : Bit) → IsDocumentBitIn room config part slice column bit → IsDocumentBitIn room config whole slice column bit

-- and so are the bits of each query that a text meets bits of the text
abbrev pub TextsHaveBitsOfQueries : Type 0
TextsHaveBitsOfQueries =
    (room : ℕ) (config : Config) (text query : List ℕ) → meets text query ≡ true → (slice column : ℕ) (bit : Bit)
    → IsDocumentBitIn room config (words query) slice column bit → IsDocumentBitIn room config (words text) slice column bit

-- the bits of a document have one for each of its words and each row of that word
abbrev pub EachRowHasItsBit : Type 0
EachRowHasItsBit =
    (room : ℕ) (config : Config) (set : List (List ℕ)) (slice column : ℕ) (bits : List Bit) → AreDocumentBitsIn room config set slice column bits
    → (word : List ℕ) (row : Row) → Contains set word → Contains (rows_of_word config word) row
    → Contains bits (bit_of_row room slice column row)

-- the bits of a document at a column are one list
abbrev pub DocumentsHaveOneListOfBits : Type 0
DocumentsHaveOneListOfBits =
    (room : ℕ) (config : Config) (set : List (List ℕ)) (slice column : ℕ) (bits other : List Bit)
    → AreDocumentBitsIn room config set slice column bits → AreDocumentBitsIn room config set slice column other → bits ≡ other

-- a bit has one owner
abbrev pub BitsHaveOneOwner : Type 0
BitsHaveOneOwner =
    (room : ℕ) (config : Config) (slice other column at : ℕ) (bit : Bit) → OwnsIn room config slice column bit → OwnsIn room config other at bit
    → (slice ≡ other) × (column ≡ at)

-- also where each slice has its own treatment
abbrev pub TreatedBitsHaveOneOwner : Type 0
TreatedBitsHaveOneOwner =
    (limits : Limits) (opening : Config) (history : List Event) (slice other column at : ℕ) (bit : Bit)
    → Owns limits opening history slice column bit → Owns limits opening history other at bit → (slice ≡ other) × (column ≡ at)

-- each column of a slice owns the bits of its private rows, where the rows of a slice have room
abbrev pub PrivateRowsHaveOwnedBits : Type 0
PrivateRowsHaveOwnedBits =
    (room : ℕ) (config : Config) (slice column : ℕ) (row : Row) → words_of_slice config ≤ room → column < columns_of_slice config
    → IsPrivateRow config row → OwnsIn room config slice column (bit_of_row room slice column row)

-- and so that of an exact word's row
abbrev pub ExactWordsHaveOwnedBits : Type 0
ExactWordsHaveOwnedBits =
    (room : ℕ) (config : Config) (slice column : ℕ) (word : List ℕ) (row : Row) → words_of_slice config ≤ room → column < columns_of_slice config
    → is_exact config word ≡ true → Contains (rows_of_word config word) row → OwnsIn room config slice column (bit_of_row room slice column row)

-- no column of the slice owns the bit of a row at a column but that one
abbrev pub RowsKeepToTheirColumn : Type 0
RowsKeepToTheirColumn =
    (room : ℕ) (config : Config) (slice column at : ℕ) (row : Row) → column < columns_of_slice config → IsRowOf config row
    → OwnsIn room config slice at (bit_of_row room slice column row) → at ≡ column

-- a document that has the bit of an exact word's row at its column has the word
abbrev pub OwnedBitsTellWords : Type 0
OwnedBitsTellWords =
    (room : ℕ) (config : Config) (set : List (List ℕ)) (slice column : ℕ) (bits : List Bit) (word : List ℕ) (row : Row) → IsInRange config
    → column < columns_of_slice config → AreDocumentBitsIn room config set slice column bits
    → is_exact config word ≡ true → Contains (rows_of_word config word) row → Contains bits (bit_of_row room slice column row) → Contains set word

-- each bit of a sound add or move on a column stands at the column's place in a word of 64 bits
abbrev pub SoundBitsStandAtTheirColumn : Type 0
SoundBitsStandAtTheirColumn =
    (opening : Config) (history : List Event) (e : Event) (slice column : ℕ) (bit : Bit) → HasItsBits opening history e
    → Contains (bits_on slice column e) bit → bit.bit ≡ column % 64

-- In a sound history: the event that put a document on a column, in a slice that wasn't cleared since, has exactly the document's bits
-- at that column, under the treatment of the slice
abbrev pub DocumentsKeepTheirBits : Type 0
DocumentsKeepTheirBits =
    (limits : Limits) (opening : Config) (history : List Event) (slice column : ℕ) (document : Document) (since : ℕ) (later : List Event)
    → IsLegal limits history → IsSound opening history → (put : IsPutOn history slice column document since later)
    → list_any (clears slice) later ≡ false
    → AreDocumentBitsIn (words_of_slice opening) (treat opening slice history) (words document.text) slice column (bits_on slice column put.event)

-- In a sound history: the event that put a document on a column, in a slice that wasn't cleared since, has the bit of the row of a word
-- that is exact under the treatment of the slice only where the document has the word
abbrev pub OwnedBitsTellWordsOfDocuments : Type 0
OwnedBitsTellWordsOfDocuments =
    (limits : Limits) (opening : Config) (history : List Event) (slice column : ℕ) (document : Document) (since : ℕ) (later : List Event)
    (word : List ℕ) (row : Row) → IsLegal limits history → IsSound opening history
    → (put : IsPutOn history slice column document since later) → list_any (clears slice) later ≡ false
    → IsInRange (treat opening slice history) → column < columns_of_slice (treat opening slice history)
    → is_exact (treat opening slice history) word ≡ true → Contains (rows_of_word (treat opening slice history) word) row
    → Contains (bits_on slice column put.event) (bit_of_row (words_of_slice opening) slice column row) → Contains (words document.text) word

-- In a sound history whose set bits in the row words keep to their owners: a set bit is one of an exact word of the document that was
-- put on the bit's column, while the slice isn't cleared
abbrev pub SetBitsAreOfExactWords : Type 0
SetBitsAreOfExactWords =
    (limits : Limits) (opening : Config) (history : List Event) (pool : List ℕ) (slice column : ℕ) (document : Document) (since : ℕ)
    (later : List Event) (bit : Bit) → IsLegal limits history → IsSound opening history → limits.slice_words ≡ words_of_slice opening
    → KeepToOwners limits opening history (IsSetIn pool)
    → IsPutOn history slice column document since later → list_any (clears slice) later ≡ false
    → IsSetIn pool bit → Owns limits opening history slice column bit
    → IsOfExactWord (words_of_slice opening) (treat opening slice history) (words document.text) slice column bit

-- and a set bit of a live column is one of an exact word of the live document
abbrev pub SetBitsAreOfLiveDocuments : Type 0
SetBitsAreOfLiveDocuments =
    (limits : Limits) (opening : Config) (history : List Event) (pool : List ℕ) (slice column : ℕ) (document : Document) (since : ℕ)
    (bit : Bit) → IsLegal limits history → IsSound opening history → limits.slice_words ≡ words_of_slice opening
    → KeepToOwners limits opening history (IsSetIn pool)
    → IsLiveOn history slice column document since → IsSetIn pool bit → Owns limits opening history slice column bit
    → IsOfExactWord (words_of_slice opening) (treat opening slice history) (words document.text) slice column bit

-- so an exact word whose bit is set at a column is a word of the document that was put there, while the slice isn't cleared
abbrev pub SetBitsTellWords : Type 0
SetBitsTellWords =
    (limits : Limits) (opening : Config) (history : List Event) (pool : List ℕ) (slice column : ℕ) (document : Document) (since : ℕ)
    (later : List Event) (word : List ℕ) (row : Row) → IsLegal limits history → IsSound opening history
    → limits.slice_words ≡ words_of_slice opening → KeepToOwners limits opening history (IsSetIn pool)
    → IsPutOn history slice column document since later → list_any (clears slice) later ≡ false
    → IsInRange (treat opening slice history) → column < limits.columns → column < columns_of_slice (treat opening slice history)
    → words_of_slice (treat opening slice history) ≤ words_of_slice opening
    → is_exact (treat opening slice history) word ≡ true → Contains (rows_of_word (treat opening slice history) word) row
    → IsSetIn pool (bit_of_row (words_of_slice opening) slice column row) → Contains (words document.text) word

-- and a column that may be taken owns no set bit
abbrev pub TakenColumnsOwnNoSetBits : Type 0
TakenColumnsOwnNoSetBits =
    (limits : Limits) (opening : Config) (history : List Event) (pool : List ℕ) (pass slice column : ℕ) (bit : Bit) → IsLegal limits history
    → KeepToOwners limits opening history (IsSetIn pool) → IsAllowed limits history (event.Take pass slice column) → IsSetIn pool bit
    → Owns limits opening history slice column bit → ⊥

-- In a sound history of such an engine: where a document was live on a column as a find began, and the find read the atoms of a search
-- there, a search that keeps the document's text may, and one that is sure keeps it.
abbrev pub ReadSearchesTellTexts : Type 0
ReadSearchesTellTexts =
    (limits : Limits) (opening : Config) (history : List Event) (slice column : ℕ) (document : Document) (since : ℕ)
    (search : Search (List (List ℕ))) (read : Search AtomRead) → IsLegal limits history → IsSound opening history
    → limits.slice_words ≡ words_of_slice opening → IsInRange (treat opening slice history) → column < limits.columns
    → column < columns_of_slice (treat opening slice history) → words_of_slice (treat opening slice history) ≤ words_of_slice opening
    → IsLiveOn history slice column document since → AreAlike (WasReadAfter limits opening history slice column) search read
    → (is_kept search document.text ≡ true → may is_ruled_out is_known read ≡ true)
    × (sure is_ruled_out is_known read ≡ true → is_kept search document.text ≡ true)
