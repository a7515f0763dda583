-- Plain texts: pieces of small letters and digits, with one space between.
use Rattle.std.specs.Prelude.{ℕ, Bool, false, ◌&&◌, ◌||◌, List, [], ◌∷◌, ◌++◌, All, IsTrue, flat_map, codes, nat_eq}
use Rattle.std.specs.Char.{is_ascii_digit, is_ascii_lowercase}
use Rattle.std.specs.List.{list_all, starts_with}

-- a small letter or a digit of ASCII
abbrev pub is_plain : ℕ → Bool
is_plain c = is_ascii_lowercase c || is_ascii_digit c

-- a small letter, and then small letters and digits
abbrev pub is_piece : List ℕ → Bool
is_piece [] = false
is_piece (first ∷ later) = is_ascii_lowercase first && list_all is_plain later

-- each of the list is such a piece
abbrev pub ArePieces : List (List ℕ) → Type 0
ArePieces pieces = All (λ piece. IsTrue (is_piece piece)) pieces

-- each piece behind a space
abbrev pub behind_spaces : List (List ℕ) → List ℕ
behind_spaces pieces = flat_map (λ piece. codes " " ++ piece) pieces

-- the text of the pieces, with one space between
abbrev pub joined_by_spaces : List (List ℕ) → List ℕ
joined_by_spaces [] = []
joined_by_spaces (piece ∷ pieces) = piece ++ behind_spaces pieces

-- each of the pieces begins with this front
abbrev pub AllBeginWith : List ℕ → List (List ℕ) → Type 0
AllBeginWith front pieces = All (λ piece. IsTrue (starts_with nat_eq piece front)) pieces
