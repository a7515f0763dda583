-- The queries of a load.
use Rattle.std.specs.Prelude.{ℕ, List, [], ◌∷◌, codes}

abbrev pub queries : List (List ℕ)
queries =
    codes "w0" ∷ codes "w0 w1" ∷ codes "w1" ∷ codes "w1 w2"
    ∷ codes "w2" ∷ codes "w2 w3" ∷ codes "w3" ∷ codes "w3 w4" ∷ []
