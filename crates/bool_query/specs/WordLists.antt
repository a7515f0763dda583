-- Words that are in some set.
use Rattle.std.specs.Prelude.{ℕ, Bool, List, [], ◌∷◌, ◌++◌}
use Rattle.std.specs.List.{list_any}
use Rattle.std.specs.Str.{bytes_eq}

-- whether the word is in the set
abbrev pub has : List (List ℕ) → List ℕ → Bool
has set word = list_any (bytes_eq word) set

-- whether the word is in one of the sets
abbrev pub in_some : List (List (List ℕ)) → List ℕ → Bool
in_some sets word = list_any (λ set. has set word) sets

-- the words of the sets, one set after the other
abbrev pub together : List (List (List ℕ)) → List (List ℕ)
together [] = []
together (set ∷ sets) = set ++ together sets
