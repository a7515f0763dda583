-- Columns that pass a test, 64 at a time.
use Rattle.std.proofs.Common.{◌≡◌, ℕ, ◌+◌, ◌<◌, List, ◌++◌, [], ◌∷◌, Bool, true, false, cond, zero, suc, map, ap, subst, ◌∙◌, refl, arith}
use Rattle.std.specs.List.{filter, range_with_len}

-- a range in two parts
pub range_split : (a m n : ℕ) → range_with_len a (m + n) ≡ range_with_len a m ++ range_with_len (a + m) n
range_split a zero n =
    let e : a ≡ a + 0 = omega arith in
    let z : 0 + n ≡ n = omega arith in
    ap (range_with_len a) z ∙ ap (λ k. range_with_len k n) e
range_split a (suc m) n =
    let e : a + 1 + m ≡ a + suc m = omega arith in
    let s : suc m + n ≡ suc (m + n) = omega arith in
    ap (range_with_len a) s ∙ ap (λ xs. a ∷ xs) (range_split (a + 1) m n ∙ ap (λ k. range_with_len (a + 1) m ++ range_with_len k n) e)

-- a range that begins further on
pub range_shift : (a b n : ℕ) → range_with_len (a + b) n ≡ map (λ k. a + k) (range_with_len b n)
range_shift a b zero = refl
range_shift a b (suc n) =
    let e : a + b + 1 ≡ a + (b + 1) = omega arith in
    ap (λ xs. (a + b) ∷ xs) (ap (λ k. range_with_len k n) e ∙ range_shift a (b + 1) n)

map_if : {A B : Type 0} (f : A → B) (test : Bool) (x : A) (xs : List A) → cond test (f x ∷ map f xs) (map f xs) ≡ map f (cond test (x ∷ xs) xs)
map_if f true x xs = refl
map_if f false x xs = refl

-- what passes of images is the images of what passes
pub filter_map : {A B : Type 0} (p : B → Bool) (f : A → B) (xs : List A) → filter p (map f xs) ≡ map f (filter (λ x. p (f x)) xs)
filter_map p f [] = refl
filter_map {A} {B} p f (x ∷ xs) =
    ap (λ (ys : List B). cond (p (f x)) (f x ∷ ys) ys) (filter_map p f xs) ∙ map_if f (p (f x)) x (filter (λ y. p (f y)) xs)

-- tests that agree over a range let the same numbers pass
pub filter_same : (p q : ℕ → Bool) (a n : ℕ) → ((k : ℕ) → k < n → p (a + k) ≡ q (a + k)) → filter p (range_with_len a n) ≡ filter q (range_with_len a n)
filter_same p q a zero h = refl
filter_same p q a (suc n) h =
    let z : a + 0 ≡ a = omega arith in
    let here : p a ≡ q a = subst (λ k. p k ≡ q k) z (h 0 (omega arith)) in
    ap (λ (b : Bool). cond b (a ∷ filter p (range_with_len (a + 1) n)) (filter p (range_with_len (a + 1) n))) here
    ∙ ap (λ (ys : List ℕ). cond (q a) (a ∷ ys) ys) (filter_same p q (a + 1) n (λ k low. let e : a + suc k ≡ a + 1 + k = omega arith in subst (λ i. p i ≡ q i) e (h (suc k) (omega (arith, low)))))

-- the numbers of a block that pass, by their places in the block
pub block_passes : (p q : ℕ → Bool) (first n : ℕ) → ((k : ℕ) → k < n → p (first + k) ≡ q k)
    → filter p (range_with_len first n) ≡ map (λ k. first + k) (filter q (range_with_len 0 n))
block_passes p q first n h =
    let z : first ≡ first + 0 = omega arith in
    ap (λ a. filter p (range_with_len a n)) z
    ∙ ap (filter p) (range_shift first 0 n)
    ∙ filter_map p (λ k. first + k) (range_with_len 0 n)
    ∙ ap (map (λ k. first + k)) (filter_same (λ k. p (first + k)) q 0 n at_start)
  where
    at_start : (k : ℕ) → k < n → p (first + (0 + k)) ≡ q (0 + k)
    at_start k low = let e : k ≡ 0 + k = omega arith in subst (λ i. p (first + i) ≡ q i) e (h k low)
