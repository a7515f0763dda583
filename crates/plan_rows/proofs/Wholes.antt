-- A part of a list that is as long as the list.
use Rattle.std.proofs.Common.{◌≡◌, ◌≤◌, suc, Bool, true, false, cond, List, [], ◌∷◌, filter, length, not, refl, ap, arith}
use Rattle.std.proofs.lemmas.List.Filters.{length-filter_both}

-- what passes a test is the whole list, where it is as long
pub filter_whole : {X : Type 0} (p : X → Bool) (xs : List X) → length (filter p xs) ≡ length xs → xs ≡ filter p xs
filter_whole p [] same = refl
filter_whole p (x ∷ xs) same =
    let both = length-filter_both p (λ y. not (p y)) (λ y. refl) xs in
    whole (p x) x (filter p xs) xs (omega (arith, both)) (filter_whole p xs) same
  where
    whole : {X : Type 0} (b : Bool) (x : X) (kept xs : List X) → length kept ≤ length xs → (length kept ≡ length xs → xs ≡ kept) → length (cond b (x ∷ kept) kept) ≡ suc (length xs) →
        x ∷ xs ≡ cond b (x ∷ kept) kept
    whole true x kept xs low is same = ap (λ ys. x ∷ ys) (is (omega (arith, same)))
    whole false x kept xs low is same = absurd (omega (arith, low, same))
