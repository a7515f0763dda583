-- Private rows: whose bits theirs are, and that they tell their word.
use Rattle.std.proofs.Common.{◌≡◌, ℕ, ◌+◌, ◌*◌, ◌/◌, ◌%◌, ◌^◌, ◌<◌, ◌≤◌, ⊎_elim, Bool, true, false, cond, List, [], ◌∷◌, ◌++◌, get_or, filter, length, map, Contains, Option, Some, None, sym, refl, ap, ◌∙◌, subst, append_assoc, arith}
use Rattle.std.proofs.lemmas.Bool.{and_parts, cases_Bool, cases_lt, eqb-true, or_from}
use Rattle.std.proofs.lemmas.List.Elements.{Contains-append_right}
use Rattle.std.proofs.lemmas.List.Sums.{passes_at_first}
use Rattle.std.proofs.lemmas.Slice.Eq.{bytes_eq-Decides}
use Rattle.std.specs.List.{list_any, range_with_len}
use Rattle.std.specs.Prelude.{◌==◌, ◌&&◌}
use Rattle.std.specs.Str.{bytes_eq}
use Rattle.funnel_model.proofs.AnswerLemmas.{contains_first}
use Rattle.funnel_model.proofs.Histories.{legal_before}
use Rattle.funnel_model.proofs.LiveColumns.{put_number}
use Rattle.funnel_model.proofs.LiveLemmas.{added_at, live-push, live-silent, survives}
use Rattle.funnel_model.proofs.LivesOn.{one_live}
use Rattle.funnel_model.proofs.RowWords.{slices_apart}
use Rattle.funnel_model.proofs.TuningLemmas.{treat-later}
use Rattle.funnel_model.specs.Events.{bits_on, clears, put_on}
use Rattle.funnel_model.specs.History.{Document, live, place}
use Rattle.funnel_model.specs.Legal.{Limits, IsInSlice, IsLegal}
use Rattle.funnel_model.specs.Sizes.{class_of_word, columns_of_slice, has_private_row, private_words, shared_rows, width_of_rank, words_of_slice}
use Rattle.funnel_model.specs.Tunings.{treat}
use Rattle.funnel_model.specs.Words.{words}
use Rattle.funnel_model.specs.declared.bit_list.Bit.{Bit}
use Rattle.funnel_model.specs.declared.config.Config.{Config}
use Rattle.funnel_model.specs.declared.event.Event.{Event}
use Rattle.funnel_model.specs.declared.event.Event.TheVariants as event
use Rattle.row_layout.specs.DocumentBits.{AreDocumentBitsIn, bit_of_row}
use Rattle.row_layout.specs.Laws.{BitsHaveOneOwner, DocumentsKeepTheirBits, ExactWordsHaveOwnedBits, OwnedBitsTellWords, OwnedBitsTellWordsOfDocuments, PrivateRowsHaveOwnedBits, RowsKeepToTheirColumn, TreatedBitsHaveOneOwner}
use Rattle.row_layout.specs.Owners.{IsOfExactWord, OwnsIn, is_exact}
use Rattle.row_layout.specs.Rows.{IsPrivateRow, IsSharedRow, private_number, private_row, rank_in_class, row_count_of_word, row_of_word, rows_of_word, shared_row}
use Rattle.term_hash.specs.Hash.{row_number}
use Rattle.row_layout.specs.Sound.{HasItsBits}
use Rattle.row_layout.specs.declared.row.Row.{Row}
use Rattle.row_layout.proofs.Listing.{private_number-below}
use Rattle.row_layout.proofs.Lists.{Contains-from_flat_map, Contains-from_map}
use Rattle.row_layout.proofs.Spans.{base-below, offset-below, private-ends, rows_more, width-positive}
use Rattle.row_layout.proofs.WordRows.{row_of_word-private, row_of_word-shared, row_count-private}

-- each column of a slice owns the bits of its private rows
pub private-owned : PrivateRowsHaveOwnedBits
private-owned room config slice column row fits in_slice private =
    let i = private.0 in
    let ends = private-ends config i private.1 in
    let all = base-below config 0 (config.max_rank + 1) (omega arith) in
    let x_in = offset-below config 0 column (omega arith) in_slice in
    record {
      row = row;
      private = private;
      is_its = refl;
      in_slice = omega arith;
      inside = subst (λ (r : Row). IsInSlice room slice (bit_of_row room slice column r).word) (sym private.2) (record { from = omega arith; to = omega arith });
    }

-- the only row of an exact word is its private row
exact_row : (config : Config) (word : List ℕ) (row : Row) → has_private_row config word ≡ true → Contains (rows_of_word config word) row →
    row ≡ private_row config (private_number config word)
exact_row config word row exact has =
    let from = Contains-from_map (row_of_word config word) (range_with_len 0 (row_count_of_word config word)) row has in
    from.2 ∙ row_of_word-private config word from.0 exact

-- and it has that row
pub exact-has_row : (config : Config) (word : List ℕ) → is_exact config word ≡ true → Contains (rows_of_word config word) (row_of_word config word 0)
exact-has_row config word exact =
    let one = row_count-private config word exact in
    subst (λ n. Contains (map (row_of_word config word) (range_with_len 0 n)) (row_of_word config word 0)) (sym one) (0, omega arith, refl)

-- so its column owns its bit
pub exact-owned : ExactWordsHaveOwnedBits
exact-owned room config slice column word row fits in_slice exact has =
    private-owned room config slice column row fits in_slice
    (private_number config word, private_number-below config word exact, exact_row config word row exact has)

-- two private rows have one number where they start together
one_number : (w i k : ℕ) → 1 ≤ w → i * w ≡ k * w → i ≡ k
one_number w i k wide same =
    ⊎_elim
    (λ (less : i < k). absurd (omega (arith, rows_more i k w less)))
    (λ (more : k ≤ i). ⊎_elim
    (λ (below : k < i). absurd (omega (arith, rows_more k i w below)))
    (λ (high : i ≤ k). let h : i ≡ k = omega arith in h)
    (cases_lt k i))
    (cases_lt i k)

-- where places in rows of a width are one place, so are the rows
one_place : (w i k x y : ℕ) → x < w → y < w → i * w + x ≡ k * w + y → (i ≡ k) × (x ≡ y)
one_place w i k x y within inside same =
    let number : i ≡ k =
    ⊎_elim
    (λ (less : i < k). absurd (omega (arith, rows_more i k w less)))
    (λ (more : k ≤ i). ⊎_elim
    (λ (below : k < i). absurd (omega (arith, rows_more k i w below)))
    (λ (high : i ≤ k). let h : i ≡ k = omega arith in h)
    (cases_lt k i))
    (cases_lt i k) in
    let rows : i * w ≡ k * w = ap (λ n. n * w) number in
    (number, omega (arith, same, rows))

-- a bit of a private row is owned by one column of the slice
one_column : (room : ℕ) (config : Config) (slice column at : ℕ) (bit : Bit) → OwnsIn room config slice column bit → OwnsIn room config slice at bit → column ≡ at
one_column room config slice column at bit owns also =
    let i = owns.private.0 in
    let k = also.private.0 in
    let w = width_of_rank config 0 in
    let first : bit ≡ bit_of_row room slice column (private_row config i) = owns.is_its ∙ ap (bit_of_row room slice column) owns.private.2 in
    let second : bit ≡ bit_of_row room slice at (private_row config k) = also.is_its ∙ ap (bit_of_row room slice at) also.private.2 in
    let word : slice * room + i * w + column / (64 * 2 ^ 0) ≡ slice * room + k * w + at / (64 * 2 ^ 0) = ap (λ (b : Bit). b.word) (sym first ∙ second) in
    let place : column % 64 ≡ at % 64 = ap (λ (b : Bit). b.bit) (sym first ∙ second) in
    let x_in = offset-below config 0 column (omega arith) owns.in_slice in
    let y_in = offset-below config 0 at (omega arith) also.in_slice in
    let rows = one_place w i k (column / (64 * 2 ^ 0)) (at / (64 * 2 ^ 0)) x_in y_in (omega (arith, word)) in
    same_column column at rows.1 place where
      same_column : (c d : ℕ) → c / 64 ≡ d / 64 → c % 64 ≡ d % 64 → c ≡ d
      same_column c d whole rest = omega arith

-- and by one of all columns
pub one_owner : BitsHaveOneOwner
one_owner room config slice other column at bit owns also =
    let same = slices_apart room slice other bit.word owns.inside also.inside in
    (same, one_column room config slice column at bit owns (subst (λ s. OwnsIn room config s at bit) (sym same) also))

pub one_owner-treated : TreatedBitsHaveOneOwner
one_owner-treated limits opening history slice other column at bit owns also =
    let room = limits.slice_words in
    let same = slices_apart room slice other bit.word owns.treated.inside also.treated.inside in
    (same, one_column room (treat opening slice history) slice column at bit owns.treated (subst (λ s. OwnsIn room (treat opening s history) s at bit) (sym same) also.treated))

-- the word at the place of a private row is that word
word_there : (config : Config) (word : List ℕ) (d : List ℕ × ℕ) → has_private_row config word ≡ true →
    (get_or (private_words config) (private_number config word) d).0 ≡ word
unfolding private_number
word_there config word d exact =
    let test = λ (entry : List ℕ × ℕ). bytes_eq entry.0 word in
    (bytes_eq-Decides (get_or (private_words config) (private_number config word) d).0 word).0
    (passes_at_first test (private_words config) d (private_number-below config word exact))

-- so two exact words with one number are one word
one_word : (config : Config) (word other : List ℕ) → has_private_row config word ≡ true → has_private_row config other ≡ true →
    private_number config word ≡ private_number config other → word ≡ other
one_word config word other exact also same =
    sym (word_there config word (word, 0) exact)
    ∙ ap (λ k. (get_or (private_words config) k (word, 0)).0) same
    ∙ word_there config other (word, 0) also

-- the bit of a private row is none of a shared row, at whichever columns they are
rows-apart : (room : ℕ) (config : Config) (slice column at i rank x : ℕ) → i < length (private_words config) → column < columns_of_slice config →
    bit_of_row room slice column (private_row config i) ≡ bit_of_row room slice at (shared_row config rank x) → ⊥
rows-apart room config slice column at i rank x below in_slice same =
    let w = width_of_rank config 0 in
    let word_same : slice * room + i * w + column / (64 * 2 ^ 0) ≡ (bit_of_row room slice at (shared_row config rank x)).word = ap (λ (b : Bit). b.word) same in
    let base = base-below config 0 rank (omega arith) in
    let ends = private-ends config i below in
    let x_in = offset-below config 0 column (omega arith) in_slice in
    omega (arith, word_same, base, ends, x_in)

-- so it is none of a row of a word that has shared rows
shared-apart : (room : ℕ) (config : Config) (word : List ℕ) (slice column i : ℕ) (row : Row) → i < length (private_words config) →
    column < columns_of_slice config → has_private_row config word ≡ false → Contains (rows_of_word config word) row →
    bit_of_row room slice column (private_row config i) ≡ bit_of_row room slice column row → ⊥
shared-apart room config word slice column i row below in_slice shares has same =
    let listed = Contains-from_map (row_of_word config word) (range_with_len 0 (row_count_of_word config word)) row has in
    let theirs = listed.2 ∙ row_of_word-shared config word listed.0 shares in
    let rank = rank_in_class config (class_of_word config word) listed.0 in
    rows-apart room config slice column column i rank (row_number word listed.0 (shared_rows config rank)) below in_slice (same ∙ ap (bit_of_row room slice column) theirs)

-- a document that has the bit of an exact word's row has the word
pub owned-tells : OwnedBitsTellWords
owned-tells room config set slice column bits word row range in_slice are exact has bit =
    let from = (are.exactly (bit_of_row room slice column row)).0 bit in
    let of_word = Contains-from_flat_map (rows_of_word config) set from.0 from.1 in
    let mine = exact_row config word row exact has in
    let n = private_number config word in
    let w = width_of_rank config 0 in
    let same : bit_of_row room slice column (private_row config n) ≡ bit_of_row room slice column from.0 =
    ap (bit_of_row room slice column) (sym mine) ∙ from.2 in
    ⊎_elim
    (λ (also : has_private_row config of_word.0 ≡ true).
    let theirs = exact_row config of_word.0 from.0 also of_word.2 in
    let k = private_number config of_word.0 in
    let word_same : slice * room + n * w + column / (64 * 2 ^ 0) ≡ slice * room + k * w + column / (64 * 2 ^ 0) =
    ap (λ (b : Bit). b.word) (same ∙ ap (bit_of_row room slice column) theirs) in
    let number = one_number w n k (width-positive config range 0) (omega (arith, word_same)) in
    subst (Contains set) (sym (one_word config word of_word.0 exact also number)) of_word.1)
    (λ (shares : has_private_row config of_word.0 ≡ false).
    absurd (shared-apart room config of_word.0 slice column n from.0 (private_number-below config word exact) in_slice shares of_word.2 same))
    (cases_Bool (has_private_row config of_word.0))

-- a bit of a document that its column owns is one of an exact word
pub owned-exact : (room : ℕ) (config : Config) (set : List (List ℕ)) (slice column : ℕ) (bits : List Bit) (bit : Bit) →
    AreDocumentBitsIn room config set slice column bits → OwnsIn room config slice column bit → Contains bits bit →
    IsOfExactWord room config set slice column bit
owned-exact room config set slice column bits bit are owns has =
    let from = (are.exactly bit).0 has in
    let of_word = Contains-from_flat_map (rows_of_word config) set from.0 from.1 in
    let i = owns.private.0 in
    let same : bit_of_row room slice column (private_row config i) ≡ bit_of_row room slice column from.0 =
    sym (owns.is_its ∙ ap (bit_of_row room slice column) owns.private.2) ∙ from.2 in
    ⊎_elim
    (λ (exact : has_private_row config of_word.0 ≡ true). record {
      word = of_word.0;
      has = of_word.1;
      exact = exact;
      row = from.0;
      its_row = of_word.2;
      is_its = from.2;
    })
    (λ (shares : has_private_row config of_word.0 ≡ false).
    absurd (shared-apart room config of_word.0 slice column i from.0 owns.private.1 owns.in_slice shares of_word.2 same))
    (cases_Bool (has_private_row config of_word.0))

-- no column of the slice owns the bit of a row at a column but that one
pub own-column : RowsKeepToTheirColumn
own-column room config slice column at row in_slice laid owns =
    ⊎_elim
    (λ (private : IsPrivateRow config row).
    one_column room config slice at column (bit_of_row room slice column row) owns
    (record { row = row; private = private; is_its = refl; in_slice = in_slice; inside = owns.inside }))
    (λ (shared : IsSharedRow config row).
    absurd (rows-apart room config slice at column owns.private.0 shared.0 shared.1 owns.private.1 owns.in_slice
    (sym (owns.is_its ∙ ap (bit_of_row room slice at) owns.private.2) ∙ ap (bit_of_row room slice column) shared.4)))
    laid

-- an event that puts a document on a column clears no slice
puts_no_clear : (slice column id other : ℕ) (e : Event) → put_on slice column e ≡ Some id → clears other e ≡ false
puts_no_clear slice column id other (event.Add pass number text s c bits) puts = refl
puts_no_clear slice column id other (event.Move pass number s c bits) puts = refl
puts_no_clear slice column id other _ puts = cc

-- in a sound history an event that puts a document on a column has exactly the bits of the document's text there
pub put_bits : (limits : Limits) (opening : Config) (earlier : List Event) (e : Event) (slice column : ℕ) (document : Document) → IsLegal limits (earlier ++ e ∷ []) →
    HasItsBits opening earlier e → put_on slice column e ≡ Some document.id → Contains (live (earlier ++ e ∷ [])) document →
    AreDocumentBitsIn (words_of_slice opening) (treat opening slice earlier) (words document.text) slice column (bits_on slice column e)
put_bits limits opening earlier (event.Add pass id text s c bits) slice column document legal its puts lives = by_test (s == slice && c == column) refl puts where
  by_test : (b : Bool) → (s == slice && c == column) ≡ b → cond {A = Option ℕ} b (Some id) None ≡ Some document.id →
      AreDocumentBitsIn (words_of_slice opening) (treat opening slice earlier) (words document.text) slice column (cond b bits [])
  by_test true is put =
      let both = and_parts (s == slice) (c == column) is in
      let new : Document = record { id = id; text = text; place = place earlier + 1 } in
      let here : Contains (live (earlier ++ event.Add pass id text s c bits ∷ [])) new =
      subst (λ (ds : List Document). Contains ds new) (sym (live-push earlier (event.Add pass id text s c bits)))
      (Contains-append_right (filter (survives (event.Add pass id text s c bits)) (live earlier)) (added_at (place earlier) (event.Add pass id text s c bits)) new (contains_first new [])) in
      let same = one_live limits (earlier ++ event.Add pass id text s c bits ∷ []) new document legal here lives (put_number true id document.id put) in
      subst (λ k. AreDocumentBitsIn (words_of_slice opening) (treat opening slice earlier) (words document.text) slice k bits) (eqb-true c column both.1)
      (subst (λ k. AreDocumentBitsIn (words_of_slice opening) (treat opening k earlier) (words document.text) k c bits) (eqb-true s slice both.0)
      (subst (λ (t : List ℕ). AreDocumentBitsIn (words_of_slice opening) (treat opening s earlier) (words t) s c bits) (ap (λ (d : Document). d.text) same) its))
  by_test false is put = cc
put_bits limits opening earlier (event.Move pass id s c bits) slice column document legal its puts lives = by_test (s == slice && c == column) refl puts where
  by_test : (b : Bool) → (s == slice && c == column) ≡ b → cond {A = Option ℕ} b (Some id) None ≡ Some document.id →
      AreDocumentBitsIn (words_of_slice opening) (treat opening slice earlier) (words document.text) slice column (cond b bits [])
  by_test true is put =
      let both = and_parts (s == slice) (c == column) is in
      let move = event.Move pass id s c bits in
      let here : Contains (live earlier) document = subst (λ (ds : List Document). Contains ds document) (live-silent earlier move (λ i. refl) refl) lives in
      let same = one_live limits earlier its.0 document (legal_before limits earlier (move ∷ []) legal) its.1 here (its.2 ∙ put_number true id document.id put) in
      subst (λ k. AreDocumentBitsIn (words_of_slice opening) (treat opening slice earlier) (words document.text) slice k bits) (eqb-true c column both.1)
      (subst (λ k. AreDocumentBitsIn (words_of_slice opening) (treat opening k earlier) (words document.text) k c bits) (eqb-true s slice both.0)
      (subst (λ (d : Document). AreDocumentBitsIn (words_of_slice opening) (treat opening s earlier) (words d.text) s c bits) same its.3))
  by_test false is put = cc
put_bits limits opening earlier _ slice column document legal its puts lives = cc

-- and keeps them under the treatment of the slice, while it isn't cleared
pub put_bits-kept : DocumentsKeepTheirBits
put_bits-kept limits opening history slice column document since later legal sound put stays =
    let e = put.event in
    let then = treat opening slice put.earlier in
    let kept : treat opening slice history ≡ then =
    ap (treat opening slice) put.whole
    ∙ treat-later opening slice put.earlier (e ∷ later) (or_from (clears slice e) (list_any (clears slice) later) (puts_no_clear slice column document.id slice e put.puts) stays) in
    let whole : history ≡ (put.earlier ++ e ∷ []) ++ later = put.whole ∙ sym (append_assoc put.earlier (e ∷ []) later) in
    let legal_then = legal_before limits (put.earlier ++ e ∷ []) later (subst (IsLegal limits) whole legal) in
    subst (λ k. AreDocumentBitsIn (words_of_slice opening) k (words document.text) slice column (bits_on slice column e)) (sym kept)
    (put_bits limits opening put.earlier e slice column document legal_then (sound put.earlier e later put.whole) put.puts put.lives)

-- so an owned bit tells a word of the document that was put on the column, while its slice isn't cleared
pub owned-tells-documents : OwnedBitsTellWordsOfDocuments
owned-tells-documents limits opening history slice column document since later word row legal sound put stays range in_slice exact has bit =
    owned-tells (words_of_slice opening) (treat opening slice history) (words document.text) slice column (bits_on slice column put.event) word row
    range in_slice (put_bits-kept limits opening history slice column document since later legal sound put stays) exact has bit
