-- A node that is set in a list.
use Rattle.std.proofs.Common.{◌≡◌, ◌++◌, ◌∷◌, [], List, length, slice_set, refl, ap}

pub set-first : {A : Type 0} (before : List A) (first : A) (after : List A) (x : A) → slice_set (before ++ first ∷ after) (length before) x ≡ before ++ x ∷ after
set-first [] first after x = refl
set-first (b ∷ before) first after x = ap (λ xs. b ∷ xs) (set-first before first after x)
