-- Bytes cut into lines.
use Rattle.std.specs.Prelude.{◌≢◌, ℕ, Bool, true, false, ◌==◌, List, [], ◌∷◌, ◌++◌, All, if◌then◌else◌}
use Rattle.std.specs.List.{fold, flat_map}

-- the whole lines so far, without their newlines, and the bytes of the line at hand
pub record Cut : Type 0 where
  pub whole : List (List ℕ)
  pub rest : List ℕ

-- a newline ends the line at hand, and any other byte goes to its end
abbrev pub cut_byte : Cut → ℕ → Cut
cut_byte now byte = if byte == 10
    then record { whole = now.whole ++ now.rest ∷ []; rest = [] }
    else record { whole = now.whole; rest = now.rest ++ byte ∷ [] }

-- the bytes, cut from the left
abbrev pub cut : List ℕ → Cut
cut bytes = fold cut_byte (record { whole = []; rest = [] }) bytes

-- the lines that a newline ended
abbrev pub whole_lines : List ℕ → List (List ℕ)
whole_lines bytes = (cut bytes).whole

-- the bytes after the last newline
abbrev pub rest_of : List ℕ → List ℕ
rest_of bytes = (cut bytes).rest

-- the rest as a line of its own, where the bytes ended and it is not empty
abbrev pub last_line : List ℕ → Bool → List (List ℕ)
last_line rest false = []
last_line [] true = []
last_line (byte ∷ bytes) true = (byte ∷ bytes) ∷ []

-- the lines of the bytes; a rest without newline is one where the bytes ended
abbrev pub lines : List ℕ → Bool → List (List ℕ)
lines bytes ended = whole_lines bytes ++ last_line (rest_of bytes) ended

-- no byte is a newline
abbrev pub HasNoNewline : List ℕ → Type 0
HasNoNewline bytes = All (λ byte. byte ≢ 10) bytes

-- the lines, each with a newline after it
abbrev pub with_newlines : List (List ℕ) → List ℕ
with_newlines whole = flat_map (λ line. line ++ 10 ∷ []) whole
