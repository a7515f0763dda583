-- Sums and counts over the numbers below a number, one number more at a time.
use Rattle.std.proofs.Common.{◌≡◌, ℕ, zero, suc, ◌+◌, ◌<◌, Bool, true, false, cond, [], ◌∷◌, ◌++◌, sym, refl, ap, ◌∙◌, add-one, arith}
use Rattle.std.specs.List.{range_with_len, sum_by, count_by}
use Rattle.std.proofs.lemmas.List.Sums.{sum_by_push}

range_more_at : (a n : ℕ) → range_with_len a (suc n) ≡ range_with_len a n ++ (a + n) ∷ []
range_more_at a zero = let e : a ≡ a + 0 = omega arith in ap (λ k. k ∷ []) e
range_more_at a (suc n) =
    let e : a + 1 + n ≡ a + suc n = omega arith in
    ap (λ xs. a ∷ xs) (range_more_at (a + 1) n ∙ ap (λ k. range_with_len (a + 1) n ++ k ∷ []) e)

pub range_more : (n : ℕ) → range_with_len 0 (n + 1) ≡ range_with_len 0 n ++ n ∷ []
range_more n =
    let e : n + 1 ≡ suc n = omega arith in
    let z : 0 + n ≡ n = omega arith in
    ap (range_with_len 0) e ∙ range_more_at 0 n ∙ ap (λ k. range_with_len 0 n ++ k ∷ []) z

pub sum_by-range_more : (f : ℕ → ℕ) (n : ℕ) → sum_by f (range_with_len 0 (n + 1)) ≡ sum_by f (range_with_len 0 n) + f n
sum_by-range_more f n = ap (sum_by f) (range_more n) ∙ sum_by_push f (range_with_len 0 n) n

pub count_by-range_more : (p : ℕ → Bool) (n : ℕ) → count_by p (range_with_len 0 (n + 1)) ≡ count_by p (range_with_len 0 n) + cond (p n) 1 0
count_by-range_more p n = sum_by-range_more (λ k. cond (p k) 1 0) n

-- the count over one number more
pub counted_more : (p : ℕ → Bool) (n : ℕ) → count_by p (range_with_len 0 (suc n)) ≡ count_by p (range_with_len 0 n) + cond (p n) 1 0
counted_more p n = ap (λ k. count_by p (range_with_len 0 k)) (sym (add-one n)) ∙ count_by-range_more p n

-- none is counted where none passes
pub none_counted : (p : ℕ → Bool) (n : ℕ) → ((k : ℕ) → k < n → p k ≡ false) → count_by p (range_with_len 0 n) ≡ 0
none_counted p zero fails = refl
none_counted p (suc n) fails =
    let before = none_counted p n (λ k below. fails k (omega arith)) in
    counted_more p n ∙ one_more (count_by p (range_with_len 0 n)) (p n) before (fails n (omega arith)) where
      one_more : (m : ℕ) (b : Bool) → m ≡ 0 → b ≡ false → m + cond b 1 0 ≡ 0
      one_more m true none is = cc
      one_more m false none is = omega arith
