-- The words of a text of ASCII, piece by piece.
use Rattle.std.proofs.Common.{◌≡◌, ℕ, zero, suc, ◌+◌, ◌-◌, ◌<◌, ◌≤◌, Bool, true, false, not, cond, ◌&&◌, ◌||◌, nat_lt, List, [], ◌∷◌, ◌++◌, length, slice_index, slice_range, filter, refl, sym, ap, ap₂, ◌∙◌, subst, arith, inl, inr}
use Rattle.std.proofs.lemmas.Bool.{cases_lt, not-true}
use Rattle.std.proofs.lemmas.Str.{IsUtf8-from_ascii, IsCharBoundary-end, chars-IsAscii, encode_ascii}
use Rattle.std.proofs.lemmas.Str.Ascii.{IsAscii-cons, IsAscii-nil}
use Rattle.std.specs.Char.{is_ascii_alphanumeric}
use Rattle.std.specs.List.{list_any}
use Rattle.std.specs.Str.{IsAscii}
use Rattle.ucd_table.proofs.Facts.{Stepped-below}
use Rattle.ucd_breaks.specs.WordBreak.{word_break}
use Rattle.ucd_breaks.proofs.Computing.{ucd_breaks}
use Rattle.ucd_breaks.proofs.WordBreakLemmas.{word_break_stepped}
use Rattle.unicode_segmentation.specs.Segments.{breaks_at, has_alphanumeric, is_alphanumeric, segments_between}
use Rattle.unicode_segmentation.specs.Steps.{IsFirstEnd}
use Rattle.unicode_segmentation.specs.Word.{is_word_break, words}
use Rattle.unicode_segmentation.proofs.AsciiLemmas.{is_alphanumeric_ascii}
use Rattle.unicode_segmentation.proofs.BoolLemmas.{and-false}
use Rattle.unicode_segmentation.proofs.SegmentsLemmas.{IsWalk, IsWalk-start, IsWalk-step, IsFirstEnd-at_break, IsFirstEnd-at_end, attach, segments_between-same, segments_between-whole}
use Rattle.word_cut.specs.Kinds.{kind_of_byte, kind_of_value, is_in_word, goes_on}
use Rattle.word_cut.specs.Pieces.{words_from}
use Rattle.word_cut.proofs.Places.{byte_is_char, uncut_in_word, uncut_before_joining, uncut_behind_joining, cut_after_word, cut_before_word}
use Rattle.word_cut.proofs.RuleLemmas.{nothing_joins_behind}

-- a walk over a word has come to `at`, behind a byte of a word
pub record IsWordWalk (s : List ℕ) (from at : ℕ) : Type 0 where
  pub walk : IsWalk is_word_break s from (length s) at
  pub last : (k : ℕ) → k + 1 ≡ at → is_in_word (kind_of_byte (slice_index s k)) ≡ true

module _ (s : List ℕ) (ascii : IsAscii s) where
  -- one byte more that isn't cut off
  step : (from i : ℕ) → IsWalk is_word_break s from (length s) i → breaks_at is_word_break s i ≡ false → i < length s → IsWalk is_word_break s from (length s) (i + 1)
  step from i w joined inside = IsWalk-step is_word_break s (IsUtf8-from_ascii s ascii) from (length s) i (slice_index s i) (i + 1) w joined (byte_is_char s ascii i inside) (omega arith) (IsCharBoundary-end s)

  pub word_begins : (i : ℕ) → i < length s → is_in_word (kind_of_byte (slice_index s i)) ≡ true → IsWordWalk s i (i + 1)
  word_begins i inside is = record {
    walk = IsWalk-start is_word_break s (IsUtf8-from_ascii s ascii) i (length s) (slice_index s i) (i + 1) (byte_is_char s ascii i inside) (omega arith) (IsCharBoundary-end s);
    last = λ k same. let here : k ≡ i = omega arith in ap (λ (n : ℕ). is_in_word (kind_of_byte (slice_index s n))) here ∙ is;
  }

  more : (n from i : ℕ) → IsWordWalk s from i → i + n ≤ length s → ((k : ℕ) → i ≤ k → k < i + n → is_in_word (kind_of_byte (slice_index s k)) ≡ true) → IsWordWalk s from (i + n)
  more zero from i w within all = let same : i ≡ i + 0 = omega arith in subst (IsWordWalk s from) same w
  more (suc n) from i w within all =
      let grows = w.walk.grows in
      let left : ℕ = i - 1 in
      let here : left + 1 ≡ i = omega arith in
      let is : is_in_word (kind_of_byte (slice_index s i)) ≡ true = all i (omega arith) (omega arith) in
      let joined : breaks_at is_word_break s i ≡ false =
      subst (λ (k : ℕ). breaks_at is_word_break s k ≡ false) here
      (uncut_in_word s ascii left (omega arith) (w.last left here) (subst (λ (k : ℕ). is_in_word (kind_of_byte (slice_index s k)) ≡ true) (sym here) is)) in
      let next : IsWordWalk s from (i + 1) = record {
        walk = step from i w.walk joined (omega arith);
        last = λ k same. let e : k ≡ i = omega arith in ap (λ (m : ℕ). is_in_word (kind_of_byte (slice_index s m))) e ∙ is;
      } in
      let same : i + 1 + n ≡ i + suc n = omega arith in
      subst (IsWordWalk s from) same (more n from (i + 1) next (omega arith) (λ k low high. all k (omega arith) (omega arith)))

  -- a walk goes on over bytes of words
  pub word_goes_on : (from i j : ℕ) → IsWordWalk s from i → (i ≤ j) × (j ≤ length s) → ((k : ℕ) → i ≤ k → k < j → is_in_word (kind_of_byte (slice_index s k)) ≡ true) → IsWordWalk s from j
  word_goes_on from i j w within all =
      let same : i + (j - i) ≡ j = omega (arith, within.0) in
      subst (IsWordWalk s from) same (more (j - i) from i w (omega (arith, within.0, within.1)) (λ k low high. all k low (omega (arith, within.0))))

  -- and over a byte that joins it to the next
  pub word_is_joined : (from last : ℕ) → IsWordWalk s from (last + 1) → last + 2 < length s → goes_on s last ≡ true → is_in_word (kind_of_byte (slice_index s (last + 2))) ≡ true → IsWordWalk s from (last + 3)
  word_is_joined from last w inside on is =
      let middle : last + 1 + 1 ≡ last + 2 = omega arith in
      let end : last + 2 + 1 ≡ last + 3 = omega arith in
      let to_middle : IsWalk is_word_break s from (length s) (last + 2) = subst (IsWalk is_word_break s from (length s)) middle (step from (last + 1) w.walk (uncut_before_joining s ascii last on) (omega arith)) in
      record {
        walk = subst (IsWalk is_word_break s from (length s)) end (step from (last + 2) to_middle (uncut_behind_joining s ascii last on) inside);
        last = λ k same. let e : k ≡ last + 2 = omega arith in ap (λ (m : ℕ). is_in_word (kind_of_byte (slice_index s m))) e ∙ is;
      }

  -- it ends at a byte of another kind that doesn't, or at the end of the text
  pub word_ends : (from last : ℕ) → IsWordWalk s from (last + 1) → (last + 1 < length s → is_in_word (kind_of_byte (slice_index s (last + 1))) ≡ false) → goes_on s last ≡ false → IsFirstEnd is_word_break s from (length s) (last + 1)
  word_ends from last w next ends =
      elim (cases_lt (last + 1) (length s)) [
        | inl inside ↦ IsFirstEnd-at_break is_word_break s (IsUtf8-from_ascii s ascii) from (length s) (last + 1) w.walk (cut_after_word s ascii last inside (w.last last refl) (next inside) ends)
        | inr past ↦ IsFirstEnd-at_end is_word_break s (IsUtf8-from_ascii s ascii) from (length s) (last + 1) w.walk past
      ]

-- ---- what stands between words

abbrev IsBlank : List ℕ → Type 0
IsBlank piece = IsAscii piece × (list_any is_alphanumeric piece ≡ false)

abbrev StartsBlank : List (List ℕ) → Type 0
StartsBlank [] = Unit {0}
StartsBlank (piece ∷ pieces) = IsBlank piece

blank_is_no_word : (piece : List ℕ) → IsBlank piece → has_alphanumeric piece ≡ false
unfolding has_alphanumeric
blank_is_no_word piece blank = ap (list_any is_alphanumeric) (chars-IsAscii piece blank.0) ∙ blank.1

dropped : (piece : List ℕ) (pieces : List (List ℕ)) → IsBlank piece → filter has_alphanumeric (piece ∷ pieces) ≡ filter has_alphanumeric pieces
dropped piece pieces blank = ap (λ (b : Bool). cond b (piece ∷ filter has_alphanumeric pieces) (filter has_alphanumeric pieces)) (blank_is_no_word piece blank)

longer : (c : ℕ) (piece : List ℕ) → IsBlank (c ∷ []) → IsBlank piece → IsBlank ((c ∷ []) ++ piece)
longer c piece one blank = (IsAscii-cons c piece (one.0 0) blank.0, ap (λ (b : Bool). b || list_any is_alphanumeric piece) (first_fails (is_alphanumeric c) one.1) ∙ blank.1)
  where
    first_fails : (b : Bool) → (b || false) ≡ false → b ≡ false
    first_fails true e = e
    first_fails false e = refl

one_more_blank : (b : Bool) (c : ℕ) (pieces : List (List ℕ)) → IsBlank (c ∷ []) → StartsBlank pieces
    → (filter has_alphanumeric (attach b (c ∷ []) pieces) ≡ filter has_alphanumeric pieces) × StartsBlank (attach b (c ∷ []) pieces)
one_more_blank true c pieces one starts = (dropped (c ∷ []) pieces one, one)
one_more_blank false c [] one starts = (dropped (c ∷ []) [] one, one)
one_more_blank false c (piece ∷ pieces) one starts =
    let both : IsBlank ((c ∷ []) ++ piece) = longer c piece one starts in
    (dropped ((c ∷ []) ++ piece) pieces both ∙ sym (dropped piece pieces starts), both)

out_of_words : (c : ℕ) → c < 128 → is_in_word (kind_of_byte c) ≡ false → is_alphanumeric c ≡ false
unfolding ucd_breaks
out_of_words c below out =
    let test : (is_in_word (kind_of_byte c) || not (is_ascii_alphanumeric c)) ≡ true = Stepped-below word_break word_break_stepped (λ x v. is_in_word (kind_of_value v) || not (is_ascii_alphanumeric x)) 128 refl c below in
    sym (is_alphanumeric_ascii c below) ∙ not-true _ (ap (λ (b : Bool). b || not (is_ascii_alphanumeric c)) (sym out) ∙ test)

same_test : (piece : List ℕ) → IsAscii piece → list_any is_ascii_alphanumeric piece ≡ list_any is_alphanumeric piece
same_test [] ascii = refl
same_test (c ∷ cs) ascii = ap₂ (λ (here later : Bool). here || later) (is_alphanumeric_ascii c (ascii 0)) (same_test cs (λ i. ascii (suc i)))

pub has_alphanumeric-ascii : (piece : List ℕ) → IsAscii piece → list_any is_ascii_alphanumeric piece ≡ has_alphanumeric piece
unfolding has_alphanumeric
has_alphanumeric-ascii piece ascii = same_test piece ascii ∙ ap (list_any is_alphanumeric) (sym (chars-IsAscii piece ascii))

module _ (s : List ℕ) (ascii : IsAscii s) where
  abbrev pieces_from : ℕ → List (List ℕ)
  pieces_from i = segments_between is_word_break s i (length s)

  first_piece : (i : ℕ) → i < length s → pieces_from i ≡ attach (breaks_at is_word_break s (i + 1)) (slice_index s i ∷ []) (pieces_from (i + 1))
  first_piece i inside =
      let char = byte_is_char s ascii i inside in
      (IsWalk-start is_word_break s (IsUtf8-from_ascii s ascii) i (length s) (slice_index s i) (i + 1) char (omega arith) (IsCharBoundary-end s)).so_far
      ∙ ap (λ (piece : List ℕ). attach (breaks_at is_word_break s (i + 1)) piece (pieces_from (i + 1))) (char.bytes ∙ encode_ascii (slice_index s i) (ascii i))

  no_pieces : (i : ℕ) → length s ≡ i → pieces_from i ≡ []
  no_pieces i same = ap (segments_between is_word_break s i) same ∙ segments_between-same is_word_break s (IsUtf8-from_ascii s ascii) i

  blank_byte : (i : ℕ) → is_in_word (kind_of_byte (slice_index s i)) ≡ false → IsBlank (slice_index s i ∷ [])
  blank_byte i out = (IsAscii-cons (slice_index s i) [] (ascii i) IsAscii-nil, ap (λ (b : Bool). b || false) (out_of_words (slice_index s i) (ascii i) out))

  abbrev IsPassed : ℕ → ℕ → Type 0
  IsPassed i j = (words_from s i ≡ words_from s j) × StartsBlank (pieces_from i)

  last_blank : (i : ℕ) → i < length s → is_in_word (kind_of_byte (slice_index s i)) ≡ false → (i + 1 < length s → is_in_word (kind_of_byte (slice_index s (i + 1))) ≡ true) → ((last : ℕ) → last + 1 ≡ i → goes_on s last ≡ false) → IsPassed i (i + 1)
  last_blank i inside out next ends =
      let one = blank_byte i out in
      elim (cases_lt (i + 1) (length s)) [
        | inl more ↦
            let here : pieces_from i ≡ (slice_index s i ∷ []) ∷ pieces_from (i + 1) =
            first_piece i inside ∙ ap (λ (b : Bool). attach b (slice_index s i ∷ []) (pieces_from (i + 1))) (cut_before_word s ascii i more out (next more) ends) in
            (ap (filter has_alphanumeric) here ∙ dropped (slice_index s i ∷ []) (pieces_from (i + 1)) one, subst StartsBlank (sym here) one)
        | inr past ↦
            let none : pieces_from (i + 1) ≡ [] = no_pieces (i + 1) (omega arith) in
            let both = one_more_blank (breaks_at is_word_break s (i + 1)) (slice_index s i) (pieces_from (i + 1)) one (subst StartsBlank (sym none) tt) in
            (ap (filter has_alphanumeric) (first_piece i inside) ∙ both.0, subst StartsBlank (sym (first_piece i inside)) both.1)
      ]

  blanks : (n i : ℕ) → i + suc n ≤ length s → ((k : ℕ) → i ≤ k → k < i + suc n → is_in_word (kind_of_byte (slice_index s k)) ≡ false)
      → (i + suc n < length s → is_in_word (kind_of_byte (slice_index s (i + suc n))) ≡ true) → ((last : ℕ) → last + 1 ≡ i → goes_on s last ≡ false) → IsPassed i (i + suc n)
  blanks zero i within out next ends =
      let here : i + 1 ≡ i + suc zero = omega arith in
      subst (IsPassed i) here
      (last_blank i (omega arith) (out i (omega arith) (omega arith)) (λ more. ap (λ (k : ℕ). is_in_word (kind_of_byte (slice_index s k))) here ∙ next (omega arith)) ends)
  blanks (suc n) i within out next ends =
      let here : i + 1 + suc n ≡ i + suc (suc n) = omega arith in
      let now : is_in_word (kind_of_byte (slice_index s i)) ≡ false = out i (omega arith) (omega arith) in
      let later : IsPassed (i + 1) (i + 1 + suc n) =
      blanks n (i + 1) (omega arith) (λ k low high. out k (omega arith) (omega arith))
      (λ more. ap (λ (k : ℕ). is_in_word (kind_of_byte (slice_index s k))) here ∙ next (omega arith))
      (λ last same. let e : last ≡ i = omega arith in ap (goes_on s) e ∙ nothing_goes_on i now) in
      let both = one_more_blank (breaks_at is_word_break s (i + 1)) (slice_index s i) (pieces_from (i + 1)) (blank_byte i now) later.1 in (
        ap (filter has_alphanumeric) (first_piece i (omega arith)) ∙ both.0 ∙ later.0 ∙ ap (words_from s) here,
        subst StartsBlank (sym (first_piece i (omega arith))) both.1,
      )
    where
      nothing_goes_on : (i : ℕ) → is_in_word (kind_of_byte (slice_index s i)) ≡ false → goes_on s i ≡ false
      nothing_goes_on i out = ap (λ (b : Bool). nat_lt (i + 2) (length s) && b) (nothing_joins_behind (kind_of_byte (slice_index s i)) (kind_of_byte (slice_index s (i + 1))) (kind_of_byte (slice_index s (i + 2))) out) ∙ and-false (nat_lt (i + 2) (length s))

  -- no word begins before the next byte of one
  pub no_word_before : (i j : ℕ) → (i ≤ j) × (j ≤ length s) → ((k : ℕ) → i ≤ k → k < j → is_in_word (kind_of_byte (slice_index s k)) ≡ false)
      → (j < length s → is_in_word (kind_of_byte (slice_index s j)) ≡ true) → ((last : ℕ) → last + 1 ≡ i → goes_on s last ≡ false) → words_from s i ≡ words_from s j
  no_word_before i j within out next ends =
      elim (cases_lt i j) [
        | inl some ↦
            let n : ℕ = j - i - 1 in
            let same : i + suc n ≡ j = omega arith in
            (subst (IsPassed i) same
            (blanks n i (omega (arith, within.1)) (λ k low high. out k low (omega arith)) (λ more. ap (λ (k : ℕ). is_in_word (kind_of_byte (slice_index s k))) same ∙ next (omega arith)) ends)).0
        | inr none ↦ let same : i ≡ j = omega (arith, within.0) in ap (words_from s) same
      ]

  -- the first piece is a word, or has neither a letter nor a digit
  pub first_word : (start end : ℕ) → IsFirstEnd is_word_break s start (length s) end
      → words_from s start ≡ cond (has_alphanumeric (slice_range s start end)) (slice_range s start end ∷ words_from s end) (words_from s end)
  first_word start end first = ap (filter has_alphanumeric) first.first

  -- there is none behind the end
  pub no_words : (i : ℕ) → i ≤ length s → length s ≤ i → words_from s i ≡ []
  no_words i within past = ap (filter has_alphanumeric) (no_pieces i (omega arith))

  -- from the start on all words come
  pub words_from_start : words_from s 0 ≡ words s
  words_from_start = ap (filter has_alphanumeric) (segments_between-whole is_word_break s (IsUtf8-from_ascii s ascii))
