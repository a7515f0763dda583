-- A number is text.
use Rattle.std.proofs.Common.{◌≡◌, ℕ, List, Option, Some, None, length, refl, inl, inr, arith}
use Rattle.std.proofs.lemmas.List.{get_or_past}
use Rattle.std.proofs.lemmas.Bool.Decides.{leb_tells}
use Rattle.std.proofs.lemmas.Str.{IsUtf8-from_ascii}
use Rattle.std.proofs.lemmas.Str.Parse.{digit_at}
use Rattle.std.specs.Str.{IsAscii, IsUtf8}
use Rattle.std.specs.Str.Parse.{IsNumeral}
use Rattle.line_proto.proofs.Numbers.{number_of-writes}
use Rattle.line_proto.specs.Forms.{number_of}

numeral_is_ascii : (word : List ℕ) → IsNumeral 10 word → IsAscii word
numeral_is_ascii word numeral i =
    elim (leb_tells (length word) i) [
      | inl past ↦ omega (arith, get_or_past word i 0 past.1)
      | inr within ↦ omega (arith, digit_at word i numeral.1 (omega (arith, within.1)))
    ]

-- bytes that are no text are no number
pub number_of-no_text : (word : List ℕ) (o : Option ℕ) → number_of word ≡ o → ¬ (IsUtf8 word) → None ≡ o
number_of-no_text word None is other = refl
number_of-no_text word (Some n) is other = absurd (other (IsUtf8-from_ascii word (numeral_is_ascii word (number_of-writes word n is).numeral)))
