-- Filters and maps of lists.
use Rattle.std.proofs.Common.{◌≡◌, suc, length, Bool, true, false, cond, ◌&&◌, List, [], ◌∷◌, ◌++◌, map, filter, sym, refl, ap, ◌∙◌}
use Rattle.std.proofs.lemmas.List.Elements.{All-head, All-tail}
use Rattle.std.specs.List.{All, AllZip, list_any}
use Rattle.std.specs.Prelude.{◌||◌}

-- two filters in either order
pub filter_swap : {A : Type 0} (p q : A → Bool) (xs : List A) → filter p (filter q xs) ≡ filter q (filter p xs)
filter_swap p q [] = refl
filter_swap {A} p q (x ∷ xs) = of (filter_swap p q xs) (p x) (q x) refl refl where
  of : filter p (filter q xs) ≡ filter q (filter p xs) → (a b : Bool) → p x ≡ a → q x ≡ b → filter p (cond b (x ∷ filter q xs) (filter q xs)) ≡ filter q (cond a (x ∷ filter p xs) (filter p xs))
  of rest true true is also =
      ap (λ c. cond c (x ∷ filter p (filter q xs)) (filter p (filter q xs))) is ∙ ap (λ (ys : List A). x ∷ ys) rest
      ∙ sym (ap (λ c. cond c (x ∷ filter q (filter p xs)) (filter q (filter p xs))) also)
  of rest true false is also = rest ∙ sym (ap (λ c. cond c (x ∷ filter q (filter p xs)) (filter q (filter p xs))) also)
  of rest false true is also = ap (λ c. cond c (x ∷ filter p (filter q xs)) (filter p (filter q xs))) is ∙ rest
  of rest false false is also = rest

-- two filters, one after the other
pub filter_both : {A : Type 0} (p q : A → Bool) (xs : List A) → filter p (filter q xs) ≡ filter (λ x. q x && p x) xs
filter_both p q [] = refl
filter_both {A} p q (x ∷ xs) = of (filter_both p q xs) (q x) where
  of : filter p (filter q xs) ≡ filter (λ y. q y && p y) xs → (b : Bool) → filter p (cond b (x ∷ filter q xs) (filter q xs)) ≡ cond (b && p x) (x ∷ filter (λ y. q y && p y) xs) (filter (λ y. q y && p y) xs)
  of rest true = ap (λ ys. cond (p x) (x ∷ ys) ys) rest
  of rest false = rest

-- two tests that agree on each element keep the same
pub filter_alike : {A : Type 0} (p q : A → Bool) (xs : List A) → All (λ x. p x ≡ q x) xs → filter p xs ≡ filter q xs
filter_alike p q [] alike = refl
filter_alike p q (x ∷ xs) alike =
    ap (λ b. cond b (x ∷ filter p xs) (filter p xs)) (All-head (λ y. p y ≡ q y) x xs alike)
    ∙ ap (λ ys. cond (q x) (x ∷ ys) ys) (filter_alike p q xs (All-tail (λ y. p y ≡ q y) x xs alike))

-- a filter of what a map gives
pub filter_of_map : {A B : Type 0} (p : B → Bool) (f : A → B) (xs : List A) → filter p (map f xs) ≡ map f (filter (λ x. p (f x)) xs)
filter_of_map p f [] = refl
filter_of_map {A} {B} p f (x ∷ xs) = of (filter_of_map p f xs) (p (f x)) where
  of : filter p (map f xs) ≡ map f (filter (λ y. p (f y)) xs) → (b : Bool) → cond b (f x ∷ filter p (map f xs)) (filter p (map f xs)) ≡ map f (cond b (x ∷ filter (λ y. p (f y)) xs) (filter (λ y. p (f y)) xs))
  of rest true = ap (λ (ys : List B). f x ∷ ys) rest
  of rest false = rest

-- two maps, one after the other
pub map_of_map : {A B C : Type 0} (g : B → C) (f : A → B) (xs : List A) → map g (map f xs) ≡ map (λ x. g (f x)) xs
map_of_map g f [] = refl
map_of_map {A} {B} {C} g f (x ∷ xs) = ap (λ (ys : List C). g (f x) ∷ ys) (map_of_map g f xs)

-- two functions that agree on each element
pub map_alike : {A B : Type 0} (f g : A → B) (xs : List A) → All (λ x. f x ≡ g x) xs → map f xs ≡ map g xs
map_alike f g [] alike = refl
map_alike {A} {B} f g (x ∷ xs) alike =
    ap (λ (y : B). y ∷ map f xs) (All-head (λ y. f y ≡ g y) x xs alike) ∙ ap (λ (ys : List B). g x ∷ ys) (map_alike f g xs (All-tail (λ y. f y ≡ g y) x xs alike))

-- some element of what a map gives
pub list_any_of_map : {A B : Type 0} (p : B → Bool) (f : A → B) (xs : List A) → list_any p (map f xs) ≡ list_any (λ x. p (f x)) xs
list_any_of_map p f [] = refl
list_any_of_map p f (x ∷ xs) = ap (λ b. p (f x) || b) (list_any_of_map p f xs)

-- two lists whose elements belong together, one by one
pub zip_length : {A B : Type 0} (R : A → B → Type 0) (xs : List A) (ys : List B) → AllZip R xs ys → length xs ≡ length ys
zip_length R [] [] all = refl
zip_length R [] (y ∷ ys) all = absurd all
zip_length R (x ∷ xs) [] all = absurd all
zip_length R (x ∷ xs) (y ∷ ys) all = ap suc (zip_length R xs ys all.1)

pub zip-push : {A B : Type 0} (R : A → B → Type 0) (xs : List A) (ys : List B) (x : A) (y : B) → AllZip R xs ys → R x y → AllZip R (xs ++ x ∷ []) (ys ++ y ∷ [])
zip-push R [] [] x y all one = (one, tt)
zip-push R [] (z ∷ ys) x y all one = absurd all
zip-push R (w ∷ xs) [] x y all one = absurd all
zip-push R (w ∷ xs) (z ∷ ys) x y all one = (all.0, zip-push R xs ys x y all.1 one)
