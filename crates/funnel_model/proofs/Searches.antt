-- The greatest number that passes a test, and the first.
use Rattle.std.proofs.Common.{◌≡◌, ℕ, zero, suc, ◌+◌, ◌<◌, ◌≤◌, Bool, true, false, cond, [], ◌∷◌, refl, sym, ap, ◌∙◌, subst, ⊎_elim, arith, add-one}
use Rattle.std.specs.Prelude.{max, fold, filter, find, unwrap_or, Option, Some}
use Rattle.std.specs.List.{range_with_len}
use Rattle.std.proofs.lemmas.Bool.{false≢true, cases_lt}
use Rattle.std.proofs.lemmas.List.Elements.{filter-append}
use Rattle.std.proofs.lemmas.List.Sums.{fold-append}
use Rattle.funnel_model.proofs.Ranges.{range_more}

-- the greatest of the numbers below n that pass, and 0 where none does
abbrev pub greatest : (ℕ → Bool) → ℕ → ℕ
greatest p n = fold max 0 (filter p (range_with_len 0 n))

taken : (b : Bool) (best n : ℕ) → fold max best (cond b (n ∷ []) []) ≡ cond b (max best n) best
taken true best n = refl
taken false best n = refl

-- one more number
greatest-more : (p : ℕ → Bool) (n : ℕ) → greatest p (suc n) ≡ cond (p n) (max (greatest p n) n) (greatest p n)
greatest-more p n =
    ap (λ k. greatest p k) (sym (add-one n))
    ∙ ap (λ xs. fold max 0 (filter p xs)) (range_more n)
    ∙ ap (fold max 0) (filter-append p (range_with_len 0 n) (n ∷ []))
    ∙ fold-append max 0 (filter p (range_with_len 0 n)) (filter p (n ∷ []))
    ∙ taken (p n) (greatest p n) n

choice_within : (b : Bool) (best n : ℕ) → best ≤ n → cond b (max best n) best ≤ n
choice_within true best n h = omega arith
choice_within false best n h = h

pub greatest-in_range : (p : ℕ → Bool) (n : ℕ) → greatest p (suc n) ≤ n
greatest-in_range p zero = subst (λ k. k ≤ 0) (sym (greatest-more p 0)) (choice_within (p 0) 0 0 (omega arith))
greatest-in_range p (suc n) =
    let h : greatest p (suc n) ≤ n = greatest-in_range p n in
    subst (λ k. k ≤ suc n) (sym (greatest-more p (suc n))) (choice_within (p (suc n)) (greatest p (suc n)) (suc n) (omega arith))

choice_passes : (p : ℕ → Bool) (b : Bool) (best n : ℕ) → p n ≡ b → best ≤ n → p best ≡ true → p (cond b (max best n) best) ≡ true
choice_passes p true best n e low h = let m : max best n ≡ n = omega arith in ap p m ∙ e
choice_passes p false best n e low h = h

pub greatest-passes : (p : ℕ → Bool) (n : ℕ) → p 0 ≡ true → p (greatest p (suc n)) ≡ true
greatest-passes p zero h = ap p (greatest-more p 0) ∙ choice_passes p (p 0) 0 0 refl (omega arith) h
greatest-passes p (suc n) h =
    let low : greatest p (suc n) ≤ n = greatest-in_range p n in
    ap p (greatest-more p (suc n)) ∙ choice_passes p (p (suc n)) (greatest p (suc n)) (suc n) refl (omega arith) (greatest-passes p n h)

choice_above : (p : ℕ → Bool) (b : Bool) (best n other : ℕ) → p n ≡ b → other < suc n → p other ≡ true → (other < n → other ≤ best) → other ≤ cond b (max best n) best
choice_above p true best n other e small passes below = omega arith
choice_above p false best n other e small passes below =
    ⊎_elim
    (λ (less : other < n). below less)
    (λ (least : n ≤ other). let at : n ≡ other = omega arith in absurd (false≢true (sym e ∙ ap p at ∙ passes)))
    (cases_lt other n)

pub greatest-above : (p : ℕ → Bool) (n other : ℕ) → other < n → p other ≡ true → other ≤ greatest p n
greatest-above p zero other small passes = absurd (omega arith)
greatest-above p (suc n) other small passes =
    subst (λ k. other ≤ k) (sym (greatest-more p n))
    (choice_above p (p n) (greatest p n) n other refl small passes (λ less. greatest-above p n other less passes))

-- the first of the n numbers from a on that passes, and d where none does
abbrev pub first : (ℕ → Bool) → ℕ → ℕ → ℕ → ℕ
first p a n d = unwrap_or (find p (range_with_len a n)) d

choice_first : (p : ℕ → Bool) (b : Bool) (a d k : ℕ) (rest : Option ℕ) → p a ≡ b → a ≤ k → p k ≡ true
    → (a + 1 ≤ k → (a + 1 ≤ unwrap_or rest d) × (unwrap_or rest d ≤ k) × (p (unwrap_or rest d) ≡ true))
    → (a ≤ unwrap_or (cond b (Some a) rest) d) × (unwrap_or (cond b (Some a) rest) d ≤ k) × (p (unwrap_or (cond b (Some a) rest) d) ≡ true)
choice_first p true a d k rest e low passes later = (omega arith, low, e)
choice_first p false a d k rest e low passes later =
    ⊎_elim
    (λ (less : a < k). let h = later (omega arith) in let above = h.0 in (omega arith, h.1, h.2))
    (λ (least : k ≤ a). let at : a ≡ k = omega arith in absurd (false≢true (sym e ∙ ap p at ∙ passes)))
    (cases_lt a k)

-- where k passes, so does the first, which is at most k
pub first-passes : (p : ℕ → Bool) (a n d k : ℕ) → a ≤ k → k < a + n → p k ≡ true → (a ≤ first p a n d) × (first p a n d ≤ k) × (p (first p a n d) ≡ true)
first-passes p a zero d k low high passes = absurd (omega arith)
first-passes p a (suc n) d k low high passes =
    choice_first p (p a) a d k (find p (range_with_len (a + 1) n)) refl low passes
    (λ above. first-passes p (a + 1) n d k above (omega arith) passes)

choice_small : (b : Bool) (a d : ℕ) (rest : Option ℕ) → a ≤ d → unwrap_or rest d ≤ d → unwrap_or (cond b (Some a) rest) d ≤ d
choice_small true a d rest low h = low
choice_small false a d rest low h = h

-- the first is at most d where all the numbers are
pub first-in_range : (p : ℕ → Bool) (a n d : ℕ) → a + n ≤ d + 1 → first p a n d ≤ d
first-in_range p a zero d low = omega arith
first-in_range p a (suc n) d low =
    choice_small (p a) a d (find p (range_with_len (a + 1) n)) (omega arith) (first-in_range p (a + 1) n d (omega arith))
