-- Sums over the workers.
use Rattle.std.proofs.Common.{◌≡◌, ℕ, zero, suc, ◌+◌, ◌<◌, ◌≤◌, ◌==◌, cond, List, add-one, refl, sym, ap, ap₂, ◌∙◌, arith, inl, inr}
use Rattle.std.specs.List.{range_with_len, sum_by}
use Rattle.std.proofs.lemmas.Bool.{cases_lt}
use Rattle.std.proofs.lemmas.Bool.Decides.{nat_tests}
use Rattle.std.proofs.lemmas.List.{map-id}
use Rattle.std.proofs.lemmas.List.FromFn.{sum_by-map-range_with_len_more}

-- the sum over the workers below a number
abbrev pub total : (ℕ → ℕ) → ℕ → ℕ
total f zero = 0
total f (suc n) = total f n + f n

sum_by-more : (f : ℕ → ℕ) (n : ℕ) → sum_by f (range_with_len 0 (n + 1)) ≡ sum_by f (range_with_len 0 n) + f n
sum_by-more f n =
    ap (sum_by f) (sym (map-id (range_with_len 0 (n + 1)))) ∙ sum_by-map-range_with_len_more f (λ k. k) 0 n n (omega arith)
    ∙ ap (λ (ks : List ℕ). sum_by f ks + f n) (map-id (range_with_len 0 n))

-- it is that over the list of their numbers
pub sum_by-total : (f : ℕ → ℕ) (n : ℕ) → sum_by f (range_with_len 0 n) ≡ total f n
sum_by-total f zero = refl
sum_by-total f (suc n) =
    (rw add-one at (sum_by-more f n)) ∙ ap (λ m. m + f n) (sum_by-total f n)

pub total-same : (f g : ℕ → ℕ) (n : ℕ) → ((k : ℕ) → f k ≡ g k) → total f n ≡ total g n
total-same f g zero same = refl
total-same f g (suc n) same = ap₂ (λ a b. a + b) (total-same f g n same) (same n)

pub total-plus : (f g : ℕ → ℕ) (n : ℕ) → total (λ k. f k + g k) n ≡ total f n + total g n
total-plus f g zero = refl
total-plus f g (suc n) = let before = total-plus f g n in omega (arith, before)

-- where nothing counts the sum is 0
pub total-none : (n : ℕ) → total (λ k. 0) n ≡ 0
total-none zero = refl
total-none (suc n) = let before = total-none n in omega (arith, before)

-- what counts for no worker below the number adds nothing
none : (r c n : ℕ) → n ≤ r → total (λ k. cond (r == k) c 0) n ≡ 0
none r c zero above = refl
none r c (suc n) above =
    let before = none r c n (omega arith) in
    let here : cond (r == n) c 0 ≡ 0 = grind (arith, nat_tests) in
    omega (arith, before, here)

-- what counts for one worker counts once
pub total-once : (r c n : ℕ) → r < n → total (λ k. cond (r == k) c 0) n ≡ c
total-once r c zero below = absurd (omega arith)
total-once r c (suc n) below =
    elim (cases_lt r n) [
      | inl before ↦
          let earlier = total-once r c n before in
          let here : cond (r == n) c 0 ≡ 0 = grind (arith, nat_tests) in
          omega (arith, earlier, here)
      | inr last ↦
          let earlier = none r c n (omega arith) in
          let here : cond (r == n) c 0 ≡ c = grind (arith, nat_tests) in
          omega (arith, earlier, here)
    ]
