-- What workers did, as lists of them before and after.
use Rattle.std.proofs.Common.{◌≡◌, List, [], ◌∷◌, ◌++◌, length, suc, refl, ap, ap₂}
use Rattle.std.specs.List.{AllZip}

-- of one pair more, behind the others, it holds too
pub zip_more : {A B : Type 0} (R : A → B → Type 0) (xs : List A) (ys : List B) (x : A) (y : B) → AllZip R xs ys → R x y → AllZip R (xs ++ x ∷ []) (ys ++ y ∷ [])
zip_more R [] [] x y all one = (one, tt)
zip_more R [] (first ∷ ys) x y all one = absurd all
zip_more R (first ∷ xs) [] x y all one = absurd all
zip_more R (first ∷ xs) (second ∷ ys) x y all one = (all.0, zip_more R xs ys x y all.1 one)

-- there are as many after as before
pub zip_length : {A B : Type 0} (R : A → B → Type 0) (xs : List A) (ys : List B) → AllZip R xs ys → length ys ≡ length xs
zip_length R [] [] all = refl
zip_length R [] (y ∷ ys) all = absurd all
zip_length R (x ∷ xs) [] all = absurd all
zip_length R (x ∷ xs) (y ∷ ys) all = ap suc (zip_length R xs ys all.1)

-- where each is as it was, all are
pub zip_same : {A : Type 0} (xs ys : List A) → AllZip (λ x y. y ≡ x) xs ys → ys ≡ xs
zip_same [] [] all = refl
zip_same [] (y ∷ ys) all = absurd all
zip_same (x ∷ xs) [] all = absurd all
zip_same (x ∷ xs) (y ∷ ys) all = ap₂ (λ z zs. z ∷ zs) all.0 (zip_same xs ys all.1)

-- and each of some is as it is
pub zip_self : {A : Type 0} (xs : List A) → AllZip (λ x y. y ≡ x) xs xs
zip_self [] = tt
zip_self (x ∷ xs) = (refl, zip_self xs)
