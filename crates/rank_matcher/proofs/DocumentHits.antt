-- A column that has all bits of a document is a hit of each query that the document meets.
use Rattle.std.proofs.Common.{◌≡◌, ℕ, ◌<◌, true, List, [], ◌∷◌, Bool, ◌&&◌, Contains, ap, ◌∙◌, refl}
use Rattle.std.specs.Prelude.{slice_index}
use Rattle.std.specs.List.{All, list_all}
use Rattle.std.proofs.lemmas.List.Elements.{All-contains, All-contains_itself, All-head, All-tail, All-weaker}
use Rattle.funnel_model.specs.Sizes.{columns_of_slice}
use Rattle.funnel_model.specs.Events.{bits_on}
use Rattle.funnel_model.specs.Words.{words}
use Rattle.funnel_model.specs.declared.bit_list.Bit.{Bit}
use Rattle.funnel_model.specs.declared.event.Event.TheVariants as event
use Rattle.rank_matcher.proofs.Bits.{test-from_set}
use Rattle.rank_matcher.specs.Hits.{hits, is_hit}
use Rattle.rank_matcher.specs.Laws.{DocumentsWithAllBitsAreHits, HasAllBits, TextsWithAllBitsAreHits, WrittenAddsAreHits, WrittenBitsAreRowBits, WrittenDocumentsAreHits}
use Rattle.rank_matcher.proofs.Ranges.{passing-contains}
use Rattle.row_layout.proofs.BitLemmas.{bits-of_part, bits-of_query}
use Rattle.row_layout.proofs.Owners.{put_bits}
use Rattle.row_layout.specs.DocumentBits.{AreDocumentBitsIn, IsDocumentBitIn, bit_of_row}
use Rattle.row_layout.specs.Layouts.{LayoutId}
use Rattle.row_layout.specs.Orders.{HasRowsOf}
use Rattle.row_layout.specs.Sound.{slice_layout}
use Rattle.row_layout.specs.declared.row.Row.{Row}
use Rattle.funnel_model.specs.RowWords.{IsSetIn}
use Rattle.row_read.specs.Bits.{is_set}

-- what holds of all bits of some words holds of the bits of each plan with their rows
pub plan-bits : (P : Bit → Type 0) (layout : LayoutId) (query : List (List ℕ)) (slice column : ℕ) → ((bit : Bit) → IsDocumentBitIn layout.room layout.config query slice column bit → P bit)
    → (plan : List Row) → HasRowsOf layout.config query plan → All (λ row. P (bit_of_row layout.room slice column row)) plan
plan-bits P layout query slice column each plan exactly =
    All-weaker (Contains plan) (λ row. P (bit_of_row layout.room slice column row)) (λ row has. each (bit_of_row layout.room slice column row) (row, (exactly row).0 has, refl)) plan (All-contains_itself plan)

all_pass : {A : Type 0} (p : A → Bool) (xs : List A) → All (λ x. p x ≡ true) xs → list_all p xs ≡ true
all_pass p [] all = refl
all_pass p (x ∷ xs) all = ap (λ b. b && list_all p xs) (All-head (λ y. p y ≡ true) x xs all) ∙ all_pass p xs (All-tail (λ y. p y ≡ true) x xs all)

-- a column whose bits are set in all rows of the plan is a hit
pub hit-contains : (layout : LayoutId) (row_words : List ℕ) (plan : List Row) (slice column : ℕ) → column < columns_of_slice layout.config
    → All (λ row. is_set row_words (bit_of_row layout.room slice column row) ≡ true) plan → Contains (hits layout row_words plan slice) column
unfolding hits
hit-contains layout row_words plan slice column low all =
    passing-contains (is_hit layout row_words plan slice) (columns_of_slice layout.config) column low (all_pass (λ row. is_set row_words (bit_of_row layout.room slice column row)) plan all)

pub document-hits : DocumentsWithAllBitsAreHits
document-hits layout query document more row_words slice column low set plan exactly =
    hit-contains layout row_words plan slice column low
    (plan-bits (λ bit. is_set row_words bit ≡ true) layout query slice column
    (λ bit of_document. test-from_set (slice_index row_words bit.word) bit.bit (set bit (bits-of_part layout.room layout.config query document more slice column bit of_document))) plan exactly)

pub text-hits : TextsWithAllBitsAreHits
text-hits layout text query meets row_words slice column low set plan exactly =
    hit-contains layout row_words plan slice column low
    (plan-bits (λ bit. is_set row_words bit ≡ true) layout (words query) slice column
    (λ bit of_document. test-from_set (slice_index row_words bit.word) bit.bit (set bit (bits-of_query layout.room layout.config text query meets slice column bit of_document))) plan exactly)

-- where all listed bits of a document are set, all bits of the document are
written : (layout : LayoutId) (document : List (List ℕ)) (slice column : ℕ) (bits : List Bit) → AreDocumentBitsIn layout.room layout.config document slice column bits
    → (row_words : List ℕ) → All (IsSetIn row_words) bits → HasAllBits layout document slice column row_words
written layout document slice column bits are row_words set bit of_document = All-contains (IsSetIn row_words) bits bit set ((are.exactly bit).1 of_document)

pub written-rows : WrittenBitsAreRowBits
written-rows layout document slice column bits are row_words set row has =
    written layout document slice column bits are row_words set (bit_of_row layout.room slice column row) (row, has, refl)

pub written-adds : WrittenAddsAreHits
written-adds opening earlier later pass id text slice column bits sound low row_words set query meets =
    let layout = slice_layout opening slice earlier in
    text-hits layout text query meets row_words slice column low
    (written layout (words text) slice column bits (sound earlier (event.Add pass id text slice column bits) later refl) row_words set)

pub written-documents : WrittenDocumentsAreHits
written-documents limits opening earlier later e slice column document legal sound low puts lives row_words set query meets =
    let layout = slice_layout opening slice earlier in
    text-hits layout document.text query meets row_words slice column low
    (written layout (words document.text) slice column (bits_on slice column e)
    (put_bits limits opening earlier e slice column document legal (sound earlier e later refl) puts lives)
    row_words set)
