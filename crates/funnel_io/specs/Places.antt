-- A place in a list of pieces: a piece's number, and how many bytes of it are behind the place.
use Rattle.std.specs.Prelude.{ℕ, Vec, map, ◌≤◌, List, [], ◌++◌, take, drop, length}
use Rattle.std.specs.Global.{Global}
use Rattle.std.specs.List.{slice_index_or, concat}
use Rattle.funnel_io.specs.Memory.{drop_front}

-- the stored pieces as lists of bytes
abbrev pub bytes_of : List (Vec ℕ Global) → List (List ℕ)
bytes_of pieces = map (λ piece. piece.items) pieces

-- the piece at a number, or no bytes past the last
abbrev pub piece_at : List (List ℕ) → ℕ → List ℕ
piece_at pieces at = slice_index_or pieces at []

-- the pieces after the place
abbrev pub pieces_from : List (List ℕ) → ℕ → ℕ → List (List ℕ)
pieces_from pieces at from = drop_front from (drop at pieces)

-- the bytes before the place
abbrev pub bytes_before : List (List ℕ) → ℕ → ℕ → List ℕ
bytes_before pieces at from = concat (take at pieces) ++ take from (piece_at pieces at)

-- the place lies within the pieces
pub record IsPlace (pieces : List (List ℕ)) (at from : ℕ) : Type 0 where
  pub piece : at ≤ length pieces
  pub byte : from ≤ length (piece_at pieces at)
