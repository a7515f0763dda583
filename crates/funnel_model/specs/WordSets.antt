-- How the words of a set lie in one buffer.
use Rattle.std.specs.Prelude.{ℕ, ◌≤◌, ◌≡◌, List, [], ◌∷◌}
use Rattle.std.specs.List.{slice_range}

-- the pieces of a buffer from a start on, one up to each end
abbrev pub pieces : ℕ → List ℕ → List ℕ → List (List ℕ)
pieces start [] buffer = []
pieces start (end ∷ ends) buffer = slice_range buffer start end ∷ pieces end ends buffer

-- the ends rise from the start on, and the last one is this
abbrev pub EndAt : ℕ → List ℕ → ℕ → Type 0
EndAt start [] last = start ≡ last
EndAt start (end ∷ ends) last = (start ≤ end) × EndAt end ends last
