-- Tests that fail, and lists that have nothing.
use Rattle.std.proofs.Common.{◌≡◌, Bool, true, false, ◌||◌, List, [], ◌∷◌, length, refl, arith}

-- where not one of two tests passes, neither does
pub neither : (a b : Bool) → (a || b) ≡ false → (a ≡ false) × (b ≡ false)
neither false b none = (refl, none)
neither true b none = cc

-- a list of length 0 is empty
pub empty_by_length : {A : Type 0} (xs : List A) → length xs ≡ 0 → xs ≡ []
empty_by_length [] is = refl
empty_by_length (x ∷ xs) is = absurd (omega arith)
