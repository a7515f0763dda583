-- Where a text of ASCII is cut, by the kinds of its bytes.
use Rattle.std.proofs.Common.{◌≡◌, ℕ, ◌+◌, ◌-◌, ◌<◌, ◌≤◌, Bool, true, false, not, ◌&&◌, ◌||◌, List, ◌∷◌, length, nat_lt, take, drop, reverse, slice_index, unwrap_or, refl, sym, ap, ap₂, ◌∙◌, subst, arith, inl, inr}
use Rattle.std.proofs.lemmas.Bool.{and_parts, cases_lt}
use Rattle.std.proofs.lemmas.Bool.Decides.{nat_tests}
use Rattle.std.proofs.lemmas.List.{drop_all, drop_more}
use Rattle.std.proofs.lemmas.Str.{IsUtf8-from_ascii, IsCharBoundary-from_ascii, encode_ascii, chars-nil}
use Rattle.std.specs.Str.{IsAscii, IsUtf8, chars}
use Rattle.ucd_breaks.specs.WordBreak.{word_break}
use Rattle.ucd_breaks.specs.declared.WordBreak.{WordBreak}
use Rattle.ucd_breaks.specs.declared.WordBreak.TheVariants.{Extend, Format, RegionalIndicator, Zwj, Other}
use Rattle.unicode_segmentation.specs.Segments.{chars_before, chars_from, breaks_at}
use Rattle.unicode_segmentation.specs.Steps.{IsCharAt}
use Rattle.unicode_segmentation.specs.Word.{break_by_pair, is_ignored, is_regional, is_word_break, joins as rule_joins, significant, starts_with_half_flag, value_at}
use Rattle.unicode_segmentation.proofs.BoolLemmas.{and-false, or-false}
use Rattle.unicode_segmentation.proofs.TextLemmas.{IsCharAt-from_bytes}
use Rattle.unicode_segmentation.proofs.WordLemmas.{significant-kept}
use Rattle.word_cut.specs.declared.kind.Kind.{Kind}
use Rattle.word_cut.specs.declared.kind.Kind.TheVariants as kind
use Rattle.word_cut.specs.Kinds.{kind_of_value, kind_of_byte, is_in_word, joins, goes_on}
use Rattle.word_cut.proofs.AsciiWords.{not_pictographic}
use Rattle.word_cut.proofs.RuleLemmas.{is_of_ascii, values_are_of_ascii, breaks, no_break_in_word, break_after_word, break_before_word, no_break_before_joining, no_break_behind_joining}

not_ignored : (v : WordBreak) → is_of_ascii v ≡ true → is_ignored v ≡ false
not_ignored Extend of_ascii = cc
not_ignored Format of_ascii = cc
not_ignored Zwj of_ascii = cc
not_ignored _ of_ascii = refl

not_regional : (v : WordBreak) → is_of_ascii v ≡ true → is_regional v ≡ false
not_regional RegionalIndicator of_ascii = cc
not_regional _ of_ascii = refl

kept : (c : ℕ) (cs : List ℕ) → c < 128 → significant (c ∷ cs) ≡ word_break c ∷ significant cs
kept c cs below = significant-kept c cs (not_ignored (word_break c) (values_are_of_ascii c below))

-- the rule, with all that it reads
abbrev rule_of : WordBreak → WordBreak → Bool → List WordBreak → WordBreak → Bool → Bool
rule_of last next pictographic left right regional =
    unwrap_or (break_by_pair last next pictographic) (not (rule_joins (value_at left 1) (value_at left 0) next right || (starts_with_half_flag left && regional)))

by_values : (c d : ℕ) (before after : List ℕ) → c < 128 → d < 128 → is_word_break (c ∷ before) (d ∷ after) ≡ breaks (value_at (significant before) 0) (word_break c) (word_break d) (value_at (significant after) 0)
unfolding is_word_break
by_values c d before after below below' =
    let l : WordBreak = word_break c in
    let r : WordBreak = word_break d in
    let fr : WordBreak = value_at (significant after) 0 in
    let joined : Bool = rule_joins (value_at (significant before) 0) l r fr in
    let half : Bool = starts_with_half_flag (l ∷ significant before) in
    ap (λ (p : Bool). rule_of l r p (significant (c ∷ before)) fr (is_regional r)) (not_pictographic d below')
    ∙ ap (λ (vs : List WordBreak). rule_of l r false vs fr (is_regional r)) (kept c before below)
    ∙ ap (λ (b : Bool). rule_of l r false (l ∷ significant before) fr b) (not_regional r (values_are_of_ascii d below'))
    ∙ ap (λ (b : Bool). unwrap_or (break_by_pair l r false) (not (joined || b))) (and-false half)
    ∙ ap (λ (b : Bool). unwrap_or (break_by_pair l r false) (not b)) (or-false joined)

module _ (s : List ℕ) (ascii : IsAscii s) where
  utf8 : IsUtf8 s
  utf8 = IsUtf8-from_ascii s ascii

  -- each byte is a character
  pub byte_is_char : (i : ℕ) → i < length s → IsCharAt s i (slice_index s i) (i + 1)
  byte_is_char i inside =
      let one : i + 1 - i ≡ 1 = omega arith in
      IsCharAt-from_bytes s utf8 i (slice_index s i) (i + 1) (omega arith) (IsCharBoundary-from_ascii s i ascii (omega arith)) (IsCharBoundary-from_ascii s (i + 1) ascii (omega arith))
      (ap (λ (n : ℕ). take n (drop i s)) one ∙ ap (take 1) (drop_more s i 0 inside) ∙ sym (encode_ascii (slice_index s i) (ascii i)))

  abbrev value : ℕ → WordBreak
  value i = word_break (slice_index s i)

  -- the values that the rule may read beside the two neighbors
  abbrev value_before : ℕ → WordBreak
  value_before i = value_at (significant (chars_before s i)) 0

  abbrev value_from : ℕ → WordBreak
  value_from i = value_at (significant (chars_from s i)) 0

  before_first : value_before 0 ≡ Other
  unfolding significant
  before_first = ap (λ (cs : List ℕ). value_at (significant (reverse cs)) 0) chars-nil

  before_next : (i : ℕ) → i < length s → value_before (i + 1) ≡ value i
  before_next i inside =
      ap (λ (cs : List ℕ). value_at (significant cs) 0) (byte_is_char i inside).before ∙ ap (λ (vs : List WordBreak). value_at vs 0) (kept (slice_index s i) (chars_before s i) (ascii i))

  from_here : (i : ℕ) → i < length s → value_from i ≡ value i
  from_here i inside =
      ap (λ (cs : List ℕ). value_at (significant cs) 0) (byte_is_char i inside).from ∙ ap (λ (vs : List WordBreak). value_at vs 0) (kept (slice_index s i) (chars_from s (i + 1)) (ascii i))

  from_end : (i : ℕ) → length s ≤ i → value_from i ≡ Other
  unfolding significant
  from_end i past = ap (λ (cs : List ℕ). value_at (significant cs) 0) (ap chars (drop_all i s past) ∙ chars-nil)

  before_of_ascii : (i : ℕ) → i ≤ length s → is_of_ascii (value_before i) ≡ true
  before_of_ascii i within =
      elim (cases_lt 0 i) [
        | inl some ↦
            let left : ℕ = i - 1 in
            let same : left + 1 ≡ i = omega arith in
            subst (λ (k : ℕ). is_of_ascii (value_before k) ≡ true) same (ap is_of_ascii (before_next left (omega arith)) ∙ values_are_of_ascii (slice_index s left) (ascii left))
        | inr none ↦
            let same : 0 ≡ i = omega arith in
            subst (λ (k : ℕ). is_of_ascii (value_before k) ≡ true) same (ap is_of_ascii before_first)
      ]

  from_of_ascii : (i : ℕ) → is_of_ascii (value_from i) ≡ true
  from_of_ascii i =
      elim (cases_lt i (length s)) [
        | inl inside ↦ ap is_of_ascii (from_here i inside) ∙ values_are_of_ascii (slice_index s i) (ascii i)
        | inr past ↦ ap is_of_ascii (from_end i past)
      ]

  -- whether the text is cut between two bytes, by the kinds around
  cut_by_values : (i : ℕ) → i + 1 < length s → breaks_at is_word_break s (i + 1) ≡ breaks (value_before i) (value i) (value (i + 1)) (value_from (i + 2))
  cut_by_values i inside =
      let next : i + 1 + 1 ≡ i + 2 = omega arith in
      ap₂ is_word_break (byte_is_char i (omega arith)).before (byte_is_char (i + 1) inside).from
      ∙ by_values (slice_index s i) (slice_index s (i + 1)) (chars_before s i) (chars_from s (i + 1 + 1)) (ascii i) (ascii (i + 1))
      ∙ ap (λ (k : ℕ). breaks (value_before i) (value i) (value (i + 1)) (value_from k)) next

  pub uncut_in_word : (i : ℕ) → i + 1 < length s → is_in_word (kind_of_byte (slice_index s i)) ≡ true → is_in_word (kind_of_byte (slice_index s (i + 1))) ≡ true → breaks_at is_word_break s (i + 1) ≡ false
  uncut_in_word i inside left right = cut_by_values i inside ∙ no_break_in_word (value_before i) (value_from (i + 2)) (value i) (value (i + 1)) left right

  -- around a byte that joins
  pub uncut_before_joining : (i : ℕ) → goes_on s i ≡ true → breaks_at is_word_break s (i + 1) ≡ false
  uncut_before_joining i on =
      let parts : (nat_lt (i + 2) (length s) ≡ true) × (joins (kind_of_byte (slice_index s i)) (kind_of_byte (slice_index s (i + 1))) (kind_of_byte (slice_index s (i + 2))) ≡ true) = and_parts _ _ on in
      let inside : i + 2 < length s = grind (arith, nat_tests) in
      let far : value_from (i + 2) ≡ value (i + 2) = from_here (i + 2) inside in
      cut_by_values i (omega arith)
      ∙ no_break_before_joining (value_before i) (value_from (i + 2)) (value i) (value (i + 1)) (from_of_ascii (i + 2)) (ap (λ (v : WordBreak). joins (kind_of_byte (slice_index s i)) (kind_of_byte (slice_index s (i + 1))) (kind_of_value v)) far ∙ parts.1)

  pub uncut_behind_joining : (i : ℕ) → goes_on s i ≡ true → breaks_at is_word_break s (i + 2) ≡ false
  uncut_behind_joining i on =
      let parts : (nat_lt (i + 2) (length s) ≡ true) × (joins (kind_of_byte (slice_index s i)) (kind_of_byte (slice_index s (i + 1))) (kind_of_byte (slice_index s (i + 2))) ≡ true) = and_parts _ _ on in
      let inside : i + 2 < length s = grind (arith, nat_tests) in
      let here : i + 1 + 1 ≡ i + 2 = omega arith in
      let far : value_before (i + 1) ≡ value i = before_next i (omega arith) in
      let joined : joins (kind_of_value (value_before (i + 1))) (kind_of_value (value (i + 1))) (kind_of_value (value (i + 1 + 1))) ≡ true =
      ap (λ (v : WordBreak). joins (kind_of_value v) (kind_of_byte (slice_index s (i + 1))) (kind_of_byte (slice_index s (i + 1 + 1)))) far
      ∙ ap (λ (k : ℕ). joins (kind_of_byte (slice_index s i)) (kind_of_byte (slice_index s (i + 1))) (kind_of_byte (slice_index s k))) here ∙ parts.1 in
      subst (λ (k : ℕ). breaks_at is_word_break s k ≡ false) here
      (cut_by_values (i + 1) (omega arith) ∙ no_break_behind_joining (value_before (i + 1)) (value (i + 1)) (value (i + 1 + 1)) (value_from (i + 1 + 2)) joined)

  joins_other : (left middle : Kind) → joins left middle kind.Other ≡ false
  joins_other kind.Letter kind.MidLetter = refl
  joins_other kind.Letter kind.MidBoth = refl
  joins_other kind.Digit kind.MidNumber = refl
  joins_other kind.Digit kind.MidBoth = refl
  joins_other _ _ = refl

  and_not : (a b : Bool) → a ≡ true → (a && b) ≡ false → b ≡ false
  and_not true b e h = h
  and_not false b e h = cc

  -- a word ends at a byte of another kind that doesn't join it to the next
  pub cut_after_word : (i : ℕ) → i + 1 < length s → is_in_word (kind_of_byte (slice_index s i)) ≡ true → is_in_word (kind_of_byte (slice_index s (i + 1))) ≡ false → goes_on s i ≡ false → breaks_at is_word_break s (i + 1) ≡ true
  cut_after_word i inside left right ends =
      let apart : joins (kind_of_value (value i)) (kind_of_value (value (i + 1))) (kind_of_value (value_from (i + 2))) ≡ false =
      elim (cases_lt (i + 2) (length s)) [
        | inl more ↦
            ap (λ (v : WordBreak). joins (kind_of_value (value i)) (kind_of_value (value (i + 1))) (kind_of_value v)) (from_here (i + 2) more)
            ∙ and_not _ _ (grind (arith, nat_tests)) ends
        | inr past ↦
            ap (λ (v : WordBreak). joins (kind_of_value (value i)) (kind_of_value (value (i + 1))) (kind_of_value v)) (from_end (i + 2) past)
            ∙ joins_other (kind_of_value (value i)) (kind_of_value (value (i + 1)))
      ] in
      cut_by_values i inside
      ∙ break_after_word (value_before i) (value_from (i + 2)) (value i) (value (i + 1)) (values_are_of_ascii (slice_index s (i + 1)) (ascii (i + 1))) (from_of_ascii (i + 2)) left right apart

  -- a word begins behind a byte of another kind that doesn't join it to what is before
  pub cut_before_word : (i : ℕ) → i + 1 < length s → is_in_word (kind_of_byte (slice_index s i)) ≡ false → is_in_word (kind_of_byte (slice_index s (i + 1))) ≡ true → ((last : ℕ) → last + 1 ≡ i → goes_on s last ≡ false) → breaks_at is_word_break s (i + 1) ≡ true
  cut_before_word i inside left right ends =
      let apart : joins (kind_of_value (value_before i)) (kind_of_value (value i)) (kind_of_value (value (i + 1))) ≡ false =
      elim (cases_lt 0 i) [
        | inl some ↦
            let last : ℕ = i - 1 in
            let same : last + 1 ≡ i = omega arith in
            let next : last + 2 ≡ i + 1 = omega arith in
            let on : joins (kind_of_byte (slice_index s last)) (kind_of_byte (slice_index s (last + 1))) (kind_of_byte (slice_index s (last + 2))) ≡ false =
            and_not _ _ (grind (arith, nat_tests)) (ends last same) in
            ap (λ (v : WordBreak). joins (kind_of_value v) (kind_of_value (value i)) (kind_of_value (value (i + 1)))) (ap value_before (sym same) ∙ before_next last (omega arith))
            ∙ ap₂ (λ (j k : ℕ). joins (kind_of_byte (slice_index s last)) (kind_of_byte (slice_index s j)) (kind_of_byte (slice_index s k))) (sym same) (sym next) ∙ on
        | inr none ↦
            let same : i ≡ 0 = omega arith in
            ap (λ (v : WordBreak). joins (kind_of_value v) (kind_of_value (value i)) (kind_of_value (value (i + 1)))) (ap value_before same ∙ before_first)
      ] in
      cut_by_values i inside
      ∙ break_before_word (value_before i) (value_from (i + 2)) (value i) (value (i + 1)) (values_are_of_ascii (slice_index s i) (ascii i)) (before_of_ascii i (omega arith)) left right apart
