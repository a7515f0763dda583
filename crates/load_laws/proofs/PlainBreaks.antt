-- Where a plain text is cut: at each space, before and behind it, and nowhere else.
use Rattle.std.proofs.Common.{◌≡◌, ◌⊎◌, ℕ, ◌<◌, None, unwrap_or, ap₂, Bool, true, false, not, ◌||◌, ◌==◌, List, [], ◌∷◌, IsTrue, refl, sym, ap, ◌∙◌, inl, inr, arith, eqb-true}
use Rattle.std.proofs.Math.Bool.{and-false, or-false, or-true}
use Rattle.std.proofs.lemmas.Bool.{false≢true, or_cases, and_right}
use Rattle.std.proofs.lemmas.Bool.Decides.{nat_tests}
use Rattle.std.specs.Char.{is_ascii_alphanumeric, is_ascii_digit, is_ascii_lowercase, to_ascii_lowercase}
use Rattle.ucd_breaks.proofs.Computing.{ucd_breaks}
use Rattle.ucd_breaks.proofs.WordBreakLemmas.{word_break_stepped, word_break_number_injective}
use Rattle.ucd_breaks.specs.WordBreak.{word_break, word_break_number}
use Rattle.ucd_breaks.specs.declared.WordBreak.{WordBreak}
use Rattle.ucd_breaks.specs.declared.WordBreak.TheVariants.{ALetter, Numeric, WSegSpace}
use Rattle.ucd_table.proofs.Facts.{Stepped-below}
use Rattle.unicode_segmentation.specs.Word.{is_word_break, joins, joins_flag, break_by_pair, is_ignored, value_at, significant, is_regional}
use Rattle.unicode_segmentation.proofs.WordLemmas.{value_at-kept}
use Rattle.load_laws.specs.PlainTexts.{is_plain}

-- small letters and digits are ASCII
pub plain_below : (c : ℕ) → IsTrue (is_plain c) → c < 128
plain_below c plain = grind (arith, nat_tests)

pub lowercase_below : (c : ℕ) → IsTrue (is_ascii_lowercase c) → c < 128
lowercase_below c letter = grind (arith, nat_tests)

-- a small letter counts as alphanumeric
pub lowercase_alphanumeric : (c : ℕ) → IsTrue (is_ascii_lowercase c) → is_ascii_alphanumeric c ≡ true
lowercase_alphanumeric c letter = grind (arith, nat_tests)

-- a small letter or a digit is its own small letter
pub lower_itself : (c : ℕ) → IsTrue (is_plain c) → to_ascii_lowercase c ≡ c
lower_itself c plain = grind (arith, nat_tests)

-- where a test fails or another holds, and the first doesn't fail, the other holds
implied : (a b : Bool) → a ≡ true → (not a || b) ≡ true → b ≡ true
implied true b is either = either
implied false b is either = absurd (false≢true is)

-- a small letter is a letter for the rules
word_break-lowercase : (c : ℕ) → IsTrue (is_ascii_lowercase c) → word_break c ≡ ALetter
unfolding ucd_breaks
word_break-lowercase c letter =
    let test = Stepped-below word_break word_break_stepped (λ x v. not (is_ascii_lowercase x) || (word_break_number v == word_break_number ALetter)) 128 refl c (lowercase_below c letter) in
    word_break_number_injective (word_break c) ALetter (eqb-true _ _ (implied (is_ascii_lowercase c) (word_break_number (word_break c) == word_break_number ALetter) letter test))

-- a digit is a number for the rules
word_break-digit : (c : ℕ) → IsTrue (is_ascii_digit c) → word_break c ≡ Numeric
unfolding ucd_breaks
word_break-digit c digit =
    let below : c < 128 = grind (arith, nat_tests) in
    let test = Stepped-below word_break word_break_stepped (λ x v. not (is_ascii_digit x) || (word_break_number v == word_break_number Numeric)) 128 refl c below in
    word_break_number_injective (word_break c) Numeric (eqb-true _ _ (implied (is_ascii_digit c) (word_break_number (word_break c) == word_break_number Numeric) digit test))

word_break-space : word_break 32 ≡ WSegSpace
unfolding ucd_breaks
word_break-space = refl

-- letters and numbers are not cut from one another
joins-letters : (far_left far_right : WordBreak) → joins far_left ALetter ALetter far_right ≡ true
joins-letters far_left far_right = refl

joins-letter_number : (far_left far_right : WordBreak) → joins far_left ALetter Numeric far_right ≡ true
joins-letter_number far_left far_right = simp (and-false, or-false, or-true)

joins-number_letter : (far_left far_right : WordBreak) → joins far_left Numeric ALetter far_right ≡ true
joins-number_letter far_left far_right = simp (and-false, or-false, or-true)

joins-numbers : (far_left far_right : WordBreak) → joins far_left Numeric Numeric far_right ≡ true
joins-numbers far_left far_right = simp (and-false, or-false, or-true)

-- a space is cut from what stands before and behind it
joins-letter_space : (far_left far_right : WordBreak) → joins far_left ALetter WSegSpace far_right ≡ false
joins-letter_space far_left far_right = simp (and-false, or-false)

joins-number_space : (far_left far_right : WordBreak) → joins far_left Numeric WSegSpace far_right ≡ false
joins-number_space far_left far_right = simp (and-false, or-false)

joins-space_letter : (far_left far_right : WordBreak) → joins far_left WSegSpace ALetter far_right ≡ false
joins-space_letter far_left far_right = simp (and-false, or-false)

-- the character counts as a letter or as a number
plain_class : (c : ℕ) → IsTrue (is_plain c) → (word_break c ≡ ALetter) ⊎ (word_break c ≡ Numeric)
plain_class c plain =
    elim (or_cases (is_ascii_lowercase c) (is_ascii_digit c) plain) [
      | inl letter ↦ inl (word_break-lowercase c letter)
      | inr digit ↦ inr (word_break-digit c digit)
    ]

-- neighbours that the rules on pairs leave open are cut where no other rule joins them
module _ (left right : WordBreak) (joined : Bool) (open_to_others : (pictographic : Bool) → break_by_pair left right pictographic ≡ None)
    (joins_so : (far_left far_right : WordBreak) → joins far_left left right far_right ≡ joined) where
  decided : (last next near far_left far_right : WordBreak) (pictographic flag : Bool) → last ≡ left → next ≡ right → near ≡ left → flag ≡ false
      → unwrap_or (break_by_pair last next pictographic) (not (joins far_left near next far_right || flag)) ≡ not joined
  decided last next near far_left far_right pictographic flag is_last is_next is_near no_flag =
      ap₂ (λ l r. unwrap_or (break_by_pair l r pictographic) (not (joins far_left near r far_right || flag))) is_last is_next
      ∙ ap₂ (λ l f. unwrap_or (break_by_pair left right pictographic) (not (joins far_left l right far_right || f))) is_near no_flag
      ∙ ap₂ (λ o j. unwrap_or o (not (j || false))) (open_to_others pictographic) (joins_so far_left far_right)
      ∙ ap not (or-false joined)

  cut_between : (last : ℕ) (before : List ℕ) (next : ℕ) (after : List ℕ) → word_break last ≡ left → word_break next ≡ right
      → is_ignored left ≡ false → is_regional right ≡ false → is_word_break (last ∷ before) (next ∷ after) ≡ not joined
  unfolding is_word_break
  cut_between last before next after is_left is_right kept single =
      let near : value_at (significant (last ∷ before)) 0 ≡ left = sym (value_at-kept (last ∷ before) (omega arith) (ap is_ignored is_left ∙ kept)) ∙ is_left in
      decided (word_break last) (word_break next) _ _ _ _ (joins_flag (last ∷ before) next) is_left is_right near
      (and_right _ _ (ap is_regional is_right ∙ single))

-- within a piece there is no cut
pub no_cut_within : (last : ℕ) (before : List ℕ) (next : ℕ) (after : List ℕ) → IsTrue (is_plain last) → IsTrue (is_plain next)
    → is_word_break (last ∷ before) (next ∷ after) ≡ false
no_cut_within last before next after of_last of_next =
    elim (plain_class last of_last) [
      | inl letter ↦ elim (plain_class next of_next) [
        | inl then_letter ↦ cut_between ALetter ALetter true (λ _. refl) joins-letters last before next after letter then_letter refl refl
        | inr then_number ↦ cut_between ALetter Numeric true (λ _. refl) joins-letter_number last before next after letter then_number refl refl
      ]
      | inr number ↦ elim (plain_class next of_next) [
        | inl then_letter ↦ cut_between Numeric ALetter true (λ _. refl) joins-number_letter last before next after number then_letter refl refl
        | inr then_number ↦ cut_between Numeric Numeric true (λ _. refl) joins-numbers last before next after number then_number refl refl
      ]
    ]

-- a piece is cut from the space behind it
pub cut_before_space : (last : ℕ) (before after : List ℕ) → IsTrue (is_plain last) → is_word_break (last ∷ before) (32 ∷ after) ≡ true
cut_before_space last before after of_last =
    elim (plain_class last of_last) [
      | inl letter ↦ cut_between ALetter WSegSpace false (λ _. refl) joins-letter_space last before 32 after letter word_break-space refl refl
      | inr number ↦ cut_between Numeric WSegSpace false (λ _. refl) joins-number_space last before 32 after number word_break-space refl refl
    ]

-- and a space from the letter behind it
pub cut_behind_space : (before : List ℕ) (next : ℕ) (after : List ℕ) → IsTrue (is_ascii_lowercase next) → is_word_break (32 ∷ before) (next ∷ after) ≡ true
cut_behind_space before next after letter =
    cut_between WSegSpace ALetter false (λ _. refl) joins-space_letter 32 before next after word_break-space (word_break-lowercase next letter) refl refl

-- the end of the text is a cut
pub cut_at_end : (last : ℕ) (before : List ℕ) → is_word_break (last ∷ before) [] ≡ true
unfolding is_word_break
cut_at_end last before = refl
