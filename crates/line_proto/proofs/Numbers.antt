-- When a word is a number, and what `parse` makes of it.
use Rattle.std.proofs.Common.{◌≡◌, ◌≢◌, ℕ, ◌^◌, ◌<◌, ◌≤◌, Bool, true, false, ◌&&◌, List, length, get_or, Some, None, Result, Ok, Err, cond, refl, sym, ap, subst, arith, ltb, leb}
use Rattle.std.specs.Result.{OkIff, result_ok}
use Rattle.std.specs.Str.{all_ascii_digits}
use Rattle.std.specs.Str.Parse.{digits_value, ParsesUnsigned}
use Rattle.std.proofs.lemmas.Str.Parse.{IsNumeralModel, numerals_by_value, tells_all_ascii_digits, parse_plain}
use Rattle.std.proofs.lemmas.Bool.Decides.{nat_tests}
use Rattle.line_proto.specs.Forms.{is_number, number_of}
use Rattle.line_proto.specs.Grammar.{WritesNumber}

-- std's test of digits and its value are a model of numerals
own : IsNumeralModel (λ ds. all_ascii_digits ds ≡ true) (digits_value 10)
own = numerals_by_value _ tells_all_ascii_digits

-- what makes a word a number
abbrev pub IsShortNumeral : List ℕ → Type 0
IsShortNumeral word = (all_ascii_digits word ≡ true) × (0 < length word) × (digits_value 10 word < 2 ^ 64)

-- the test holds of such a word of at most 20 bytes
is_number-true : (digits : Bool) (len value : ℕ) → digits ≡ true → 0 < len → len ≤ 20 → value < 2 ^ 64 → (ltb 0 len && leb len 20 && digits && ltb value (2 ^ 64)) ≡ true
is_number-true digits len value d some few small = grind (arith, nat_tests)

-- and of no other
is_number-false : (digits : Bool) (len value : ℕ) → ¬ ((digits ≡ true) × (0 < len) × (value < 2 ^ 64)) → (ltb 0 len && leb len 20 && digits && ltb value (2 ^ 64)) ≡ false
is_number-false digits len value other = grind (arith, nat_tests)

-- where `parse` tells of a word without a plus sign, `ok` gives the number that it writes
pub number_of-parsed : {E : Type 0} (word : List ℕ) (r : Result ℕ E) → OkIff r (IsShortNumeral word) (digits_value 10 word) → length word ≤ 20 → result_ok r ≡ number_of word
number_of-parsed word (Ok x) h few =
    rw (is_number-true (all_ascii_digits word) (length word) (digits_value 10 word) h.0.0 h.0.1 few h.0.2) (ap (λ (n : ℕ). Some n) h.1)
number_of-parsed word (Err e) h few =
    rw (is_number-false (all_ascii_digits word) (length word) (digits_value 10 word) h) refl

-- the same from the clause of `parse`
pub number_of-plain : {E : Type 0} (word : List ℕ) (r : Result ℕ E) → ParsesUnsigned 64 10 word r → get_or word 0 0 ≢ 43 → length word ≤ 20 → result_ok r ≡ number_of word
number_of-plain word r h plain few = number_of-parsed word r (parse_plain own 64 word r h plain) few

-- what the test says, part by part
is_number-parts : (digits : Bool) (len value : ℕ) → (ltb 0 len && leb len 20 && digits && ltb value (2 ^ 64)) ≡ true → (digits ≡ true) × (0 < len) × (len ≤ 20) × (value < 2 ^ 64)
is_number-parts digits len value h = grind (arith, nat_tests)

-- a value that is there only where a test holds
some_if : (b : Bool) (v n : ℕ) → cond b (Some v) None ≡ Some n → (b ≡ true) × (v ≡ n)
some_if true v n h = (refl, cc)
some_if false v n h = absurd (cc)

-- a word that is read as a number writes it
pub number_of-writes : (word : List ℕ) (number : ℕ) → number_of word ≡ Some number → WritesNumber word number
number_of-writes word number h =
    let read = some_if (is_number word) (digits_value 10 word) number h in
    let parts = is_number-parts (all_ascii_digits word) (length word) (digits_value 10 word) read.0 in
    record {
      numeral = (parts.1, own.to word parts.0);
      short = parts.2;
      value = read.1;
      fits = subst (λ (n : ℕ). n < 2 ^ 64) read.1 parts.3;
    }

-- and a word that writes a number is read as it
pub number_of-written : (word : List ℕ) (number : ℕ) → WritesNumber word number → number_of word ≡ Some number
number_of-written word number w =
    let fits : digits_value 10 word < 2 ^ 64 = subst (λ (n : ℕ). n < 2 ^ 64) (sym w.value) w.fits in
    rw (is_number-true (all_ascii_digits word) (length word) (digits_value 10 word) (own.from word w.numeral.1) w.numeral.0 w.short fits) (ap (λ (n : ℕ). Some n) w.value)
