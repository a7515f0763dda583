-- The bits of rows are those of a document with the words whose rows they are.
use Rattle.std.proofs.Common.{◌≡◌, ℕ, ◌+◌, ◌*◌, ◌/◌, ◌^◌, ◌<◌, ◌≤◌, ⊎_elim, inl, inr, Bool, true, false, cond, eqb, List, [], ◌∷◌, ◌++◌, map, flat_map, Contains, sym, ap, refl, ◌∙◌, subst, arith}
use Rattle.std.specs.List.{All, AllPass, list_any, range_with_len}
use Rattle.std.specs.Prelude.{◌-◌, min}
use Rattle.std.specs.Str.{bytes_eq}
use Rattle.std.proofs.lemmas.Nat.{mul-le, pow_pos}
use Rattle.std.proofs.lemmas.Bool.{cases_Bool}
use Rattle.std.proofs.lemmas.List.{map-append}
use Rattle.std.proofs.lemmas.List.Elements.{All-contains, All-contains_itself, All-weaker}
use Rattle.std.proofs.lemmas.List.Sums.{AllPass-from_list_all}
use Rattle.funnel_model.proofs.AnswerLemmas.{Contains-map}
use Rattle.funnel_model.proofs.SizesLemmas.{shared_rows-positive}
use Rattle.funnel_model.proofs.WordLemmas.{Contains-has}
use Rattle.funnel_model.specs.Configuration.{IsInRange}
use Rattle.funnel_model.specs.Legal.{IsInSlice}
use Rattle.funnel_model.specs.Sizes.{class_of_word, columns_of_slice, has_private_row, shared_rows, words_of_slice}
use Rattle.funnel_model.specs.Treatment.{row_count_of_class}
use Rattle.funnel_model.specs.Words.{words}
use Rattle.funnel_model.specs.declared.bit_list.Bit.{Bit}
use Rattle.funnel_model.specs.declared.config.Config.{Config}
use Rattle.row_layout.specs.DocumentBits.{AreDocumentBitsIn, bit_from, bit_of_row, bits_of_word, in_order, slice_start}
use Rattle.row_layout.specs.Laws.{DocumentsHaveBitsOfParts, TextsHaveBitsOfQueries}
use Rattle.row_layout.specs.Owners.{IsOwnedOnlyAt}
use Rattle.row_layout.specs.Rows.{IsRowOf, private_number, rank_in_class, row_count_of_word, row_of_word, rows_of_word, rows_of_words}
use Rattle.row_layout.specs.declared.row.Row.{Row}
use Rattle.row_layout.proofs.InOrder.{in_order-has, in_order-rises}
use Rattle.row_layout.proofs.Listing.{private_number-below}
use Rattle.row_layout.proofs.Lists.{Contains-flat_map, Contains-from_flat_map, Contains-from_map}
use Rattle.row_layout.proofs.Owners.{own-column}
use Rattle.row_layout.proofs.Spans.{row-span, rows_more, offset-below}
use Rattle.row_layout.proofs.WordRows.{row_of_word-private, row_of_word-shared}
use Rattle.term_hash.specs.Hash.{row_number}
use Rattle.term_hash.proofs.HashLemmas.{row_number-below}

-- the rows of a set of words are rows of each larger one
pub rows-of_part : (config : Config) (part whole : List (List ℕ)) → ((word : List ℕ) → Contains part word → Contains whole word) → (row : Row) → Contains (rows_of_words config part) row → Contains (rows_of_words config whole) row
rows-of_part config part whole more row has =
    let r = Contains-from_flat_map (rows_of_word config) part row has in
    Contains-flat_map (rows_of_word config) whole r.0 row (more r.0 r.1) r.2

pub bits-of_part : DocumentsHaveBitsOfParts
bits-of_part room config part whole more slice column bit of_document = (of_document.0, rows-of_part config part whole more of_document.0 of_document.1, of_document.2)

pub bits-of_query : TextsHaveBitsOfQueries
bits-of_query room config text query meets =
    let passes : AllPass (λ word. list_any (bytes_eq word) (words text)) (words query) = AllPass-from_list_all (λ word. list_any (bytes_eq word) (words text)) (words query) meets in
    bits-of_part room config (words query) (words text)
    (λ word has. (Contains-has word (words text)).1 (All-contains (λ w. list_any (bytes_eq w) (words text) ≡ true) (words query) word passes has))

-- the bits of the rows of some words, in order, are the bits of a document with these words
pub bits_of_rows : (room : ℕ) (config : Config) (slice column : ℕ) (set : List (List ℕ)) →
    AreDocumentBitsIn room config set slice column (in_order (map (bit_of_row room slice column) (rows_of_words config set)))
bits_of_rows room config slice column set =
    let rows = rows_of_words config set in
    record {
      rising = in_order-rises (map (bit_of_row room slice column) rows);
      exactly = λ bit. (
        λ has.
            let r = Contains-from_map (bit_of_row room slice column) rows bit
            ((in_order-has (map (bit_of_row room slice column) rows) bit).0 has) in
            (r.0, r.1, r.2),
        λ of_document.
            (in_order-has (map (bit_of_row room slice column) rows) bit).1
            (subst (Contains (map (bit_of_row room slice column) rows)) (sym of_document.2)
            (Contains-map (bit_of_row room slice column) rows of_document.0 of_document.1)),
      );
    }

-- the same bits, word by word
pub bits_by_word : (config : Config) (first column : ℕ) (set : List (List ℕ)) →
    flat_map (bits_of_word config first column) set ≡ map (bit_from first column) (rows_of_words config set)
bits_by_word config first column [] = refl
bits_by_word config first column (word ∷ set) =
    ap (λ bits. bits_of_word config first column word ++ bits) (bits_by_word config first column set)
    ∙ sym (map-append (bit_from first column) (rows_of_word config word) (rows_of_words config set))

-- no row of a class has a rank above the highest
low_rank : (b : Bool) (m n k : ℕ) → cond b 0 (min m n - k) ≤ m
low_rank true m n k = omega arith
low_rank false m n k = omega arith

-- the rows of a word are rows of the configuration
pub word-row : (config : Config) (word : List ℕ) (row : Row) → Contains (rows_of_word config word) row → IsRowOf config row
word-row config word row has =
    let from = Contains-from_map (row_of_word config word) (range_with_len 0 (row_count_of_word config word)) row has in
    let class = class_of_word config word in
    let rank = rank_in_class config class from.0 in
    ⊎_elim
    (λ (exact : has_private_row config word ≡ true). inl (private_number config word, private_number-below config word exact, from.2 ∙ row_of_word-private config word from.0 exact))
    (λ (shares : has_private_row config word ≡ false). inr (
      rank,
      row_number word from.0 (shared_rows config rank),
      low_rank (eqb (from.0 + 1) (row_count_of_class config.one_in config.snr class)) config.max_rank (class - 3) (2 * from.0),
      row_number-below word from.0 (shared_rows config rank) (shared_rows-positive config rank),
      from.2 ∙ row_of_word-shared config word from.0 shares,
    ))
    (cases_Bool (has_private_row config word))

pub words-row : (config : Config) (set : List (List ℕ)) (row : Row) → Contains (rows_of_words config set) row → IsRowOf config row
words-row config set row has =
    let from = Contains-from_flat_map (rows_of_word config) set row has in
    word-row config from.0 row from.2

-- the bit of a row lies in the slice, where the rows have room
pub bit-in_slice : (room : ℕ) (config : Config) → words_of_slice config ≤ room → (slice column : ℕ) → column < columns_of_slice config → (row : Row) → IsRowOf config row → IsInSlice room slice (bit_of_row room slice column row).word
bit-in_slice room config fits slice column in_slice row laid =
    let span = row-span config row laid in
    let offset = offset-below config row.rank column span.rank in_slice in
    record { from = omega arith; to = omega (arith, span.width, span.within) }

-- what the bits of a document are
module _ (room : ℕ) (config : Config) (set : List (List ℕ)) (slice column : ℕ) (bits : List Bit) (are : AreDocumentBitsIn room config set slice column bits) where
  all_of : (P : Bit → Type 0) → ((row : Row) → IsRowOf config row → P (bit_of_row room slice column row)) → All P bits
  all_of P each =
      All-weaker (Contains bits) P
      (λ bit has. let from = (are.exactly bit).0 has in subst P (sym from.2) (each from.0 (words-row config set from.0 from.1)))
      bits (All-contains_itself bits)

  pub bits-in_slice : words_of_slice config ≤ room → column < columns_of_slice config → All (λ (b : Bit). IsInSlice room slice b.word) bits
  bits-in_slice fits in_slice = all_of (λ (b : Bit). IsInSlice room slice b.word) (bit-in_slice room config fits slice column in_slice)

  pub bits-of_words : All (λ (b : Bit). b.bit < 64) bits
  bits-of_words = all_of (λ (b : Bit). b.bit < 64) (λ row laid. omega arith)

  pub bits-own : column < columns_of_slice config → All (IsOwnedOnlyAt room config slice column) bits
  bits-own in_slice = all_of (IsOwnedOnlyAt room config slice column) (λ row laid at. own-column room config slice column at row in_slice laid)

-- the bit of a row, from the first word of its slice on, fits its word
pub bit-fits : (room : ℕ) (config : Config) → words_of_slice config ≤ room → config.slices * room ≤ 33554432 → (slice column first : ℕ) → slice < config.slices → column < columns_of_slice config → first ≡ slice_start room slice → (row : Row) → IsRowOf config row → first + row.start + column / (64 * 2 ^ row.rank) < 2 ^ 32
bit-fits room config fits small slice column first in_pool in_slice is row laid =
    let lies = bit-in_slice room config fits slice column in_slice row laid in
    omega (arith, lies.to, rows_more slice config.slices room in_pool, is)

pub rank-small : (config : Config) → IsInRange config → (row : Row) → IsRowOf config row → row.rank ≤ 6
rank-small config range row laid = let span = row-span config row laid in omega (arith, span.rank, range.max_rank)

-- a slice has a column
pub columns-positive : (config : Config) → IsInRange config → 0 < columns_of_slice config
columns-positive config range =
    omega (arith, mul-le 64 1 (64 * 2 ^ config.max_rank) config.blocks (let h : 64 ≤ 64 * 2 ^ config.max_rank = omega (arith, pow_pos config.max_rank) in h) range.blocks.0)
