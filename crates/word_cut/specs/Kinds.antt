-- The kinds of the bytes of ASCII by which words are cut.
use Rattle.std.specs.Prelude.{ℕ, ◌+◌, Bool, true, false, ◌&&◌, List, length, slice_index, nat_lt}
use Rattle.ucd_breaks.specs.WordBreak.{word_break}
use Rattle.ucd_breaks.specs.declared.WordBreak.{WordBreak}
use Rattle.ucd_breaks.specs.declared.WordBreak.TheVariants.{ALetter, ExtendNumLet, MidLetter, MidNum, MidNumLet, Numeric, SingleQuote}
use Rattle.word_cut.specs.declared.kind.Kind.{Kind}
use Rattle.word_cut.specs.declared.kind.Kind.TheVariants as kind

-- the kind that a value of Word_Break is, of those that a byte of ASCII has
abbrev pub kind_of_value : WordBreak → Kind
kind_of_value ALetter = kind.Letter
kind_of_value Numeric = kind.Digit
kind_of_value ExtendNumLet = kind.Underscore
kind_of_value MidLetter = kind.MidLetter
kind_of_value MidNum = kind.MidNumber
kind_of_value MidNumLet = kind.MidBoth
kind_of_value SingleQuote = kind.MidBoth
kind_of_value _ = kind.Other

abbrev pub kind_of_byte : ℕ → Kind
kind_of_byte byte = kind_of_value (word_break byte)

-- words are made of bytes of this kind, beside those that join two of these
abbrev pub is_in_word : Kind → Bool
is_in_word kind.Letter = true
is_in_word kind.Digit = true
is_in_word kind.Underscore = true
is_in_word _ = false

abbrev pub is_letter : Kind → Bool
is_letter kind.Letter = true
is_letter _ = false

abbrev pub is_digit : Kind → Bool
is_digit kind.Digit = true
is_digit _ = false

-- a byte of the middle kind, between one of the left and one of the right, is a part of their word
abbrev pub joins : Kind → Kind → Kind → Bool
joins kind.Letter kind.MidLetter right = is_letter right
joins kind.Letter kind.MidBoth right = is_letter right
joins kind.Digit kind.MidNumber right = is_digit right
joins kind.Digit kind.MidBoth right = is_digit right
joins _ _ _ = false

-- a word that comes to this byte goes on behind it, with a byte that joins it to the next
abbrev pub goes_on : List ℕ → ℕ → Bool
goes_on bytes last = nat_lt (last + 2) (length bytes) && joins (kind_of_byte (slice_index bytes last)) (kind_of_byte (slice_index bytes (last + 1))) (kind_of_byte (slice_index bytes (last + 2)))
