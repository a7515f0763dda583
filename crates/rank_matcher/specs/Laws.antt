-- Which documents a scan must find.
use Rattle.std.specs.Prelude.{◌≡◌, ℕ, ◌<◌, true, List, [], ◌∷◌, ◌++◌, All, Contains, Some}
use Rattle.funnel_model.specs.Events.{bits_on, put_on}
use Rattle.funnel_model.specs.History.{Document, live}
use Rattle.funnel_model.specs.Legal.{IsLegal, Limits}
use Rattle.funnel_model.specs.Sizes.{columns_of_slice}
use Rattle.funnel_model.specs.Tunings.{treat}
use Rattle.funnel_model.specs.Words.{words, meets}
use Rattle.funnel_model.specs.declared.bit_list.Bit.{Bit}
use Rattle.funnel_model.specs.declared.config.Config.{Config}
use Rattle.funnel_model.specs.declared.event.Event.{Event}
use Rattle.funnel_model.specs.declared.event.Event.TheVariants as event
use Rattle.row_layout.specs.DocumentBits.{AreDocumentBitsIn, IsDocumentBitIn, bit_of_row}
use Rattle.row_layout.specs.Layouts.{LayoutId}
use Rattle.row_layout.specs.Sound.{IsSound, slice_layout}
use Rattle.row_layout.specs.Orders.{HasRowsOf}
use Rattle.row_layout.specs.Rows.{rows_of_words}
use Rattle.row_layout.specs.declared.row.Row.{Row}
use Rattle.funnel_model.specs.RowWords.{IsSetIn}
use Rattle.rank_matcher.specs.Hits.{hits}

-- every bit that a document with these words sets at the column of the slice is set in the row words
abbrev pub HasAllBits : LayoutId → List (List ℕ) → ℕ → ℕ → List ℕ → Type 0
HasAllBits layout document slice column row_words =
    (bit : Bit) → IsDocumentBitIn layout.room layout.config document slice column bit → IsSetIn row_words bit

-- a column that has all bits of a document is a hit of the plan of each query whose words the document has
abbrev pub DocumentsWithAllBitsAreHits : Type 0
DocumentsWithAllBitsAreHits =
    (layout : LayoutId) (query document : List (List ℕ)) → ((word : List ℕ) → Contains query word → Contains document word)
    → (row_words : List ℕ) (slice column : ℕ) → column < columns_of_slice layout.config → HasAllBits layout document slice column row_words
    → (plan : List Row) → HasRowsOf layout.config query plan → Contains (hits layout row_words plan slice) column

-- and so is a column that has all bits of a text, for each query that the text meets
abbrev pub TextsWithAllBitsAreHits : Type 0
TextsWithAllBitsAreHits =
    (layout : LayoutId) (text query : List ℕ) → meets text query ≡ true
    → (row_words : List ℕ) (slice column : ℕ) → column < columns_of_slice layout.config → HasAllBits layout (words text) slice column row_words
    → (plan : List Row) → HasRowsOf layout.config (words query) plan → Contains (hits layout row_words plan slice) column

-- where all bits of a document with these words are set, the rows of each of the words have their bit at the column
abbrev pub WrittenBitsAreRowBits : Type 0
WrittenBitsAreRowBits =
    (layout : LayoutId) (document : List (List ℕ)) (slice column : ℕ) (bits : List Bit)
    → AreDocumentBitsIn layout.room layout.config document slice column bits → (row_words : List ℕ) → All (IsSetIn row_words) bits
    → (row : Row) → Contains (rows_of_words layout.config document) row → IsSetIn row_words (bit_of_row layout.room slice column row)

-- where all bits of an add are set, its column is a hit for each query that its text meets, under the layout that its slice had then
abbrev pub WrittenAddsAreHits : Type 0
WrittenAddsAreHits =
    (opening : Config) (earlier later : List Event) (pass id : ℕ) (text : List ℕ) (slice column : ℕ) (bits : List Bit)
    → IsSound opening (earlier ++ event.Add pass id text slice column bits ∷ later) → column < columns_of_slice (treat opening slice earlier)
    → (row_words : List ℕ) → All (IsSetIn row_words) bits
    → (query : List ℕ) → meets text query ≡ true → (plan : List Row) → HasRowsOf (treat opening slice earlier) (words query) plan
    → Contains (hits (slice_layout opening slice earlier) row_words plan slice) column

-- and so is the column on which an event puts a document, which is an add or a move, where all bits of the event are set
abbrev pub WrittenDocumentsAreHits : Type 0
WrittenDocumentsAreHits =
    (limits : Limits) (opening : Config) (earlier later : List Event) (e : Event) (slice column : ℕ) (document : Document)
    → IsLegal limits (earlier ++ e ∷ []) → IsSound opening (earlier ++ e ∷ later) → column < columns_of_slice (treat opening slice earlier)
    → put_on slice column e ≡ Some document.id → Contains (live (earlier ++ e ∷ [])) document
    → (row_words : List ℕ) → All (IsSetIn row_words) (bits_on slice column e)
    → (query : List ℕ) → meets document.text query ≡ true → (plan : List Row) → HasRowsOf (treat opening slice earlier) (words query) plan
    → Contains (hits (slice_layout opening slice earlier) row_words plan slice) column
