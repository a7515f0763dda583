-- The text that a value in a target stands for.
use Rattle.std.specs.Prelude.{ℕ, ◌+◌, ◌*◌, ◌==◌, ◌&&◌, List, [], ◌∷◌, Option, Some, None, option_map, option_and_then, if◌then◌else◌}
use Rattle.std.specs.Char.{digit_value, is_ascii_hexdigit}
use Rattle.std.specs.Str.{is_utf8}

-- a byte before the others, where there are others
abbrev pub put : ℕ → Option (List ℕ) → Option (List ℕ)
put byte others = option_map (λ bytes. byte ∷ bytes) others

-- the byte that another byte than a percent sign stands for: a plus is a space
abbrev pub meant : ℕ → ℕ
meant byte = if byte == 43 then 32 else byte

-- whether a percent sign was read, of which the digits come next
pub data Within : Type 0 where
  plain : Within
  escape : Within

-- the bytes that a value stands for: a percent sign and two hexadecimal digits are a byte; nothing
-- where a percent sign lacks its digits
unfoldable pub decoded : Within → List ℕ → Option (List ℕ)
decoded plain [] = Some []
decoded plain (byte ∷ bytes) = if byte == 37 then decoded escape bytes else put (meant byte) (decoded plain bytes)
decoded escape [] = None
decoded escape (high ∷ []) = None
decoded escape (high ∷ low ∷ bytes) =
    if is_ascii_hexdigit high && is_ascii_hexdigit low then put (digit_value high * 16 + digit_value low) (decoded plain bytes) else None

-- the bytes, where they are text
abbrev pub as_text : List ℕ → Option (List ℕ)
as_text bytes = if is_utf8 bytes then Some bytes else None

-- the text that a value stands for, if it stands for one
abbrev pub text_of_value : List ℕ → Option (List ℕ)
text_of_value value = option_and_then as_text (decoded plain value)
