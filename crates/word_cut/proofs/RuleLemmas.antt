-- The rules of UAX 29 by the kinds of ASCII.
use Rattle.std.proofs.Common.{◌≡◌, ◌⊎◌, inl, inr, ⊎_elim, ℕ, ◌<◌, Bool, true, false, not, unwrap_or, refl, sym, ap, ◌∙◌, subst}
use Rattle.ucd_table.proofs.Facts.{Stepped-below}
use Rattle.ucd_breaks.specs.WordBreak.{word_break}
use Rattle.ucd_breaks.specs.declared.WordBreak.{WordBreak}
use Rattle.ucd_breaks.specs.declared.WordBreak.TheVariants.{Cr, DoubleQuote, ExtendNumLet, Extend, Format, HebrewLetter, Katakana, ALetter, Lf, MidNumLet, MidLetter, MidNum, Newline, Numeric, RegionalIndicator, SingleQuote, WSegSpace, Other, Zwj}
use Rattle.ucd_breaks.proofs.Computing.{ucd_breaks}
use Rattle.ucd_breaks.proofs.WordBreakLemmas.{word_break_stepped}
use Rattle.unicode_segmentation.specs.Word.{break_by_pair, is_ah_letter, is_mid_letter, is_mid_num, is_numeric, joins as rule_joins}
use Rattle.unicode_segmentation.proofs.BoolLemmas.{and-false, and-true, or-false}
use Rattle.unicode_segmentation.proofs.WordLemmas.{joins-letter_mid, joins-mid_letter, joins-numeric_mid}
use Rattle.word_cut.specs.declared.kind.Kind.{Kind}
use Rattle.word_cut.specs.declared.kind.Kind.TheVariants as kind
use Rattle.word_cut.specs.Kinds.{kind_of_value, is_in_word, is_letter, is_digit, joins}

-- some byte of ASCII has the value
abbrev pub is_of_ascii : WordBreak → Bool
is_of_ascii Extend = false
is_of_ascii Format = false
is_of_ascii HebrewLetter = false
is_of_ascii Katakana = false
is_of_ascii RegionalIndicator = false
is_of_ascii Zwj = false
is_of_ascii _ = true

pub values_are_of_ascii : (c : ℕ) → c < 128 → is_of_ascii (word_break c) ≡ true
unfolding ucd_breaks
values_are_of_ascii c below = Stepped-below word_break word_break_stepped (λ x v. is_of_ascii v) 128 refl c below

-- whether there is a boundary between two characters that no other rule reads, by the values around it
abbrev pub breaks : WordBreak → WordBreak → WordBreak → WordBreak → Bool
breaks far_left left right far_right = unwrap_or (break_by_pair left right false) (not (rule_joins far_left left right far_right))

ah_letter_is : (v : WordBreak) → is_of_ascii v ≡ true → is_ah_letter v ≡ is_letter (kind_of_value v)
ah_letter_is HebrewLetter of_ascii = cc
ah_letter_is _ of_ascii = refl

numeric_is : (v : WordBreak) → is_numeric v ≡ is_digit (kind_of_value v)
numeric_is Numeric = refl
numeric_is _ = refl

-- a byte between a letter and another joins them, where it may be within a word
letter_by : (far_left left : WordBreak) → is_mid_letter left ≡ true → joins (kind_of_value far_left) (kind_of_value left) kind.Letter ≡ is_letter (kind_of_value far_left)
letter_by ALetter MidLetter is = refl
letter_by ALetter MidNumLet is = refl
letter_by ALetter SingleQuote is = refl
letter_by Numeric MidLetter is = refl
letter_by Numeric MidNumLet is = refl
letter_by Numeric SingleQuote is = refl
letter_by _ MidLetter is = refl
letter_by _ MidNumLet is = refl
letter_by _ SingleQuote is = refl
letter_by _ _ is = cc

digit_by : (far_left left : WordBreak) → is_mid_num left ≡ true → joins (kind_of_value far_left) (kind_of_value left) kind.Digit ≡ is_digit (kind_of_value far_left)
digit_by ALetter MidNum is = refl
digit_by ALetter MidNumLet is = refl
digit_by ALetter SingleQuote is = refl
digit_by Numeric MidNum is = refl
digit_by Numeric MidNumLet is = refl
digit_by Numeric SingleQuote is = refl
digit_by _ MidNum is = refl
digit_by _ MidNumLet is = refl
digit_by _ SingleQuote is = refl
digit_by _ _ is = cc

joins-mid_numeric : (far_left left far_right : WordBreak) → is_mid_num left ≡ true → rule_joins far_left left Numeric far_right ≡ is_numeric far_left
joins-mid_numeric far_left MidNum far_right is = simp (and-false, and-true, or-false)
joins-mid_numeric far_left MidNumLet far_right is = simp (and-false, and-true, or-false)
joins-mid_numeric far_left SingleQuote far_right is = simp (and-false, and-true, or-false)
joins-mid_numeric far_left _ far_right is = cc

-- ---- between bytes of words there is none

abbrev IsInWord : WordBreak → Type 0
IsInWord v = (v ≡ ALetter) ⊎ ((v ≡ Numeric) ⊎ (v ≡ ExtendNumLet))

in_word_is : (v : WordBreak) → is_in_word (kind_of_value v) ≡ true → IsInWord v
in_word_is ALetter is = inl refl
in_word_is Numeric is = inr (inl refl)
in_word_is ExtendNumLet is = inr (inr refl)
in_word_is _ is = cc

-- what holds of the three values that bytes of words have
of_each : (P : WordBreak → Type 0) → P ALetter → P Numeric → P ExtendNumLet → (v : WordBreak) → is_in_word (kind_of_value v) ≡ true → P v
of_each P letter digit underscore v is =
    ⊎_elim (λ e. subst P (sym e) letter) (λ rest. ⊎_elim (λ e. subst P (sym e) digit) (λ e. subst P (sym e) underscore) rest) (in_word_is v is)

module _ (far_left far_right : WordBreak) where
  letter_letter : breaks far_left ALetter ALetter far_right ≡ false
  letter_letter = refl

  letter_digit : breaks far_left ALetter Numeric far_right ≡ false
  letter_digit = simp (and-false, and-true)

  letter_underscore : breaks far_left ALetter ExtendNumLet far_right ≡ false
  letter_underscore = simp (and-false, and-true)

  digit_letter : breaks far_left Numeric ALetter far_right ≡ false
  digit_letter = simp (and-false, and-true)

  digit_digit : breaks far_left Numeric Numeric far_right ≡ false
  digit_digit = simp (and-false, and-true)

  digit_underscore : breaks far_left Numeric ExtendNumLet far_right ≡ false
  digit_underscore = simp (and-false, and-true)

  underscore_letter : breaks far_left ExtendNumLet ALetter far_right ≡ false
  underscore_letter = simp (and-false, and-true)

  underscore_digit : breaks far_left ExtendNumLet Numeric far_right ≡ false
  underscore_digit = simp (and-false, and-true)

  underscore_underscore : breaks far_left ExtendNumLet ExtendNumLet far_right ≡ false
  underscore_underscore = simp (and-false, and-true)

  pub no_break_in_word : (left right : WordBreak) → is_in_word (kind_of_value left) ≡ true → is_in_word (kind_of_value right) ≡ true → breaks far_left left right far_right ≡ false
  no_break_in_word left right is is' =
      of_each (λ l. breaks far_left l right far_right ≡ false)
      (of_each (λ r. breaks far_left ALetter r far_right ≡ false) letter_letter letter_digit letter_underscore right is')
      (of_each (λ r. breaks far_left Numeric r far_right ≡ false) digit_letter digit_digit digit_underscore right is')
      (of_each (λ r. breaks far_left ExtendNumLet r far_right ≡ false) underscore_letter underscore_digit underscore_underscore right is')
      left is

  -- ---- before a byte of another kind there is one, where it doesn't join what is around it

  letter_then : (right : WordBreak) → is_of_ascii right ≡ true → is_of_ascii far_right ≡ true → is_in_word (kind_of_value right) ≡ false → joins kind.Letter (kind_of_value right) (kind_of_value far_right) ≡ false
      → breaks far_left ALetter right far_right ≡ true
  letter_then Cr a a' out apart = refl
  letter_then Lf a a' out apart = refl
  letter_then Newline a a' out apart = refl
  letter_then MidLetter a a' out apart = ap not (joins-letter_mid far_left MidLetter far_right refl ∙ ah_letter_is far_right a' ∙ apart)
  letter_then MidNumLet a a' out apart = ap not (joins-letter_mid far_left MidNumLet far_right refl ∙ ah_letter_is far_right a' ∙ apart)
  letter_then SingleQuote a a' out apart = ap not (joins-letter_mid far_left SingleQuote far_right refl ∙ ah_letter_is far_right a' ∙ apart)
  letter_then MidNum a a' out apart = simp and-false
  letter_then DoubleQuote a a' out apart = simp and-false
  letter_then WSegSpace a a' out apart = simp and-false
  letter_then Other a a' out apart = simp and-false
  letter_then _ a a' out apart = cc

  digit_then : (right : WordBreak) → is_of_ascii right ≡ true → is_in_word (kind_of_value right) ≡ false → joins kind.Digit (kind_of_value right) (kind_of_value far_right) ≡ false
      → breaks far_left Numeric right far_right ≡ true
  digit_then Cr a out apart = refl
  digit_then Lf a out apart = refl
  digit_then Newline a out apart = refl
  digit_then MidNum a out apart = ap not (joins-numeric_mid far_left MidNum far_right refl ∙ numeric_is far_right ∙ apart)
  digit_then MidNumLet a out apart = ap not (joins-numeric_mid far_left MidNumLet far_right refl ∙ numeric_is far_right ∙ apart)
  digit_then SingleQuote a out apart = ap not (joins-numeric_mid far_left SingleQuote far_right refl ∙ numeric_is far_right ∙ apart)
  digit_then MidLetter a out apart = simp and-false
  digit_then DoubleQuote a out apart = simp and-false
  digit_then WSegSpace a out apart = simp and-false
  digit_then Other a out apart = simp and-false
  digit_then _ a out apart = cc

  underscore_then : (right : WordBreak) → is_of_ascii right ≡ true → is_in_word (kind_of_value right) ≡ false → breaks far_left ExtendNumLet right far_right ≡ true
  underscore_then Cr a out = refl
  underscore_then Lf a out = refl
  underscore_then Newline a out = refl
  underscore_then MidNum a out = simp and-false
  underscore_then MidNumLet a out = simp and-false
  underscore_then SingleQuote a out = simp and-false
  underscore_then MidLetter a out = simp and-false
  underscore_then DoubleQuote a out = simp and-false
  underscore_then WSegSpace a out = simp and-false
  underscore_then Other a out = simp and-false
  underscore_then _ a out = cc

  pub break_after_word : (left right : WordBreak) → is_of_ascii right ≡ true → is_of_ascii far_right ≡ true → is_in_word (kind_of_value left) ≡ true → is_in_word (kind_of_value right) ≡ false
      → joins (kind_of_value left) (kind_of_value right) (kind_of_value far_right) ≡ false → breaks far_left left right far_right ≡ true
  break_after_word left right a a' is out apart =
      of_each (λ l. joins (kind_of_value l) (kind_of_value right) (kind_of_value far_right) ≡ false → breaks far_left l right far_right ≡ true)
      (letter_then right a a' out) (digit_then right a out) (λ _. underscore_then right a out) left is apart

  -- ---- and behind one of another kind there is one too

  then_letter : (left : WordBreak) → is_of_ascii left ≡ true → is_of_ascii far_left ≡ true → is_in_word (kind_of_value left) ≡ false → joins (kind_of_value far_left) (kind_of_value left) kind.Letter ≡ false
      → breaks far_left left ALetter far_right ≡ true
  then_letter Cr a a' out apart = refl
  then_letter Lf a a' out apart = refl
  then_letter Newline a a' out apart = refl
  then_letter MidLetter a a' out apart = ap not (joins-mid_letter far_left MidLetter ALetter far_right refl refl ∙ ah_letter_is far_left a' ∙ sym (letter_by far_left MidLetter refl) ∙ apart)
  then_letter MidNumLet a a' out apart = ap not (joins-mid_letter far_left MidNumLet ALetter far_right refl refl ∙ ah_letter_is far_left a' ∙ sym (letter_by far_left MidNumLet refl) ∙ apart)
  then_letter SingleQuote a a' out apart = ap not (joins-mid_letter far_left SingleQuote ALetter far_right refl refl ∙ ah_letter_is far_left a' ∙ sym (letter_by far_left SingleQuote refl) ∙ apart)
  then_letter MidNum a a' out apart = simp and-false
  then_letter DoubleQuote a a' out apart = simp and-false
  then_letter WSegSpace a a' out apart = simp and-false
  then_letter Other a a' out apart = simp and-false
  then_letter _ a a' out apart = cc

  then_digit : (left : WordBreak) → is_of_ascii left ≡ true → is_in_word (kind_of_value left) ≡ false → joins (kind_of_value far_left) (kind_of_value left) kind.Digit ≡ false
      → breaks far_left left Numeric far_right ≡ true
  then_digit Cr a out apart = refl
  then_digit Lf a out apart = refl
  then_digit Newline a out apart = refl
  then_digit MidNum a out apart = ap not (joins-mid_numeric far_left MidNum far_right refl ∙ numeric_is far_left ∙ sym (digit_by far_left MidNum refl) ∙ apart)
  then_digit MidNumLet a out apart = ap not (joins-mid_numeric far_left MidNumLet far_right refl ∙ numeric_is far_left ∙ sym (digit_by far_left MidNumLet refl) ∙ apart)
  then_digit SingleQuote a out apart = ap not (joins-mid_numeric far_left SingleQuote far_right refl ∙ numeric_is far_left ∙ sym (digit_by far_left SingleQuote refl) ∙ apart)
  then_digit MidLetter a out apart = simp and-false
  then_digit DoubleQuote a out apart = simp and-false
  then_digit WSegSpace a out apart = simp and-false
  then_digit Other a out apart = simp and-false
  then_digit _ a out apart = cc

  then_underscore : (left : WordBreak) → is_of_ascii left ≡ true → is_in_word (kind_of_value left) ≡ false → breaks far_left left ExtendNumLet far_right ≡ true
  then_underscore Cr a out = refl
  then_underscore Lf a out = refl
  then_underscore Newline a out = refl
  then_underscore MidNum a out = simp and-false
  then_underscore MidNumLet a out = simp and-false
  then_underscore SingleQuote a out = simp and-false
  then_underscore MidLetter a out = simp and-false
  then_underscore DoubleQuote a out = simp and-false
  then_underscore WSegSpace a out = simp and-false
  then_underscore Other a out = simp and-false
  then_underscore _ a out = cc

  pub break_before_word : (left right : WordBreak) → is_of_ascii left ≡ true → is_of_ascii far_left ≡ true → is_in_word (kind_of_value left) ≡ false → is_in_word (kind_of_value right) ≡ true
      → joins (kind_of_value far_left) (kind_of_value left) (kind_of_value right) ≡ false → breaks far_left left right far_right ≡ true
  break_before_word left right a a' out is apart =
      of_each (λ r. joins (kind_of_value far_left) (kind_of_value left) (kind_of_value r) ≡ false → breaks far_left left r far_right ≡ true)
      (then_letter left a a' out) (then_digit left a out) (λ _. then_underscore left a out) right is apart

  -- ---- around a byte that joins a word there is none

  letter_joined : (right : WordBreak) → joins kind.Letter (kind_of_value right) (kind_of_value far_right) ≡ true → is_of_ascii far_right ≡ true → breaks far_left ALetter right far_right ≡ false
  letter_joined MidLetter joined a = ap not (joins-letter_mid far_left MidLetter far_right refl ∙ ah_letter_is far_right a ∙ joined)
  letter_joined MidNumLet joined a = ap not (joins-letter_mid far_left MidNumLet far_right refl ∙ ah_letter_is far_right a ∙ joined)
  letter_joined SingleQuote joined a = ap not (joins-letter_mid far_left SingleQuote far_right refl ∙ ah_letter_is far_right a ∙ joined)
  letter_joined _ joined a = cc

  digit_joined : (right : WordBreak) → joins kind.Digit (kind_of_value right) (kind_of_value far_right) ≡ true → breaks far_left Numeric right far_right ≡ false
  digit_joined MidNum joined = ap not (joins-numeric_mid far_left MidNum far_right refl ∙ numeric_is far_right ∙ joined)
  digit_joined MidNumLet joined = ap not (joins-numeric_mid far_left MidNumLet far_right refl ∙ numeric_is far_right ∙ joined)
  digit_joined SingleQuote joined = ap not (joins-numeric_mid far_left SingleQuote far_right refl ∙ numeric_is far_right ∙ joined)
  digit_joined _ joined = cc

  pub no_break_before_joining : (left right : WordBreak) → is_of_ascii far_right ≡ true → joins (kind_of_value left) (kind_of_value right) (kind_of_value far_right) ≡ true → breaks far_left left right far_right ≡ false
  no_break_before_joining ALetter right a joined = letter_joined right joined a
  no_break_before_joining Numeric right a joined = digit_joined right joined
  no_break_before_joining _ right a joined = cc

-- the same behind the byte that joins
mid_letter : (left far_right : WordBreak) (right : WordBreak) → joins kind.Letter (kind_of_value left) (kind_of_value right) ≡ true → breaks ALetter left right far_right ≡ false
mid_letter MidLetter far_right ALetter joined = refl
mid_letter MidNumLet far_right ALetter joined = refl
mid_letter SingleQuote far_right ALetter joined = refl
mid_letter MidLetter far_right _ joined = cc
mid_letter MidNumLet far_right _ joined = cc
mid_letter SingleQuote far_right _ joined = cc
mid_letter _ far_right right joined = cc

mid_digit : (left far_right : WordBreak) (right : WordBreak) → joins kind.Digit (kind_of_value left) (kind_of_value right) ≡ true → breaks Numeric left right far_right ≡ false
mid_digit MidNum far_right Numeric joined = refl
mid_digit MidNumLet far_right Numeric joined = refl
mid_digit SingleQuote far_right Numeric joined = refl
mid_digit MidNum far_right _ joined = cc
mid_digit MidNumLet far_right _ joined = cc
mid_digit SingleQuote far_right _ joined = cc
mid_digit _ far_right right joined = cc

pub no_break_behind_joining : (far_left left right far_right : WordBreak) → joins (kind_of_value far_left) (kind_of_value left) (kind_of_value right) ≡ true → breaks far_left left right far_right ≡ false
no_break_behind_joining ALetter left right far_right joined = mid_letter left far_right right joined
no_break_behind_joining Numeric left right far_right joined = mid_digit left far_right right joined
no_break_behind_joining _ left right far_right joined = cc

-- nothing joins a word to what is of none
pub joins_in_words : (left middle right : Kind) → joins left middle right ≡ true → is_in_word right ≡ true
joins_in_words kind.Letter kind.MidLetter kind.Letter joined = refl
joins_in_words kind.Letter kind.MidBoth kind.Letter joined = refl
joins_in_words kind.Digit kind.MidNumber kind.Digit joined = refl
joins_in_words kind.Digit kind.MidBoth kind.Digit joined = refl
joins_in_words _ _ _ joined = cc

pub nothing_joins_behind : (left middle right : Kind) → is_in_word left ≡ false → joins left middle right ≡ false
nothing_joins_behind kind.Letter middle right out = cc
nothing_joins_behind kind.Digit middle right out = cc
nothing_joins_behind _ middle right out = refl
