-- The numbers of a range that pass a test.
use Rattle.std.proofs.Common.{◌≡◌, ℕ, ◌+◌, ◌<◌, List, ◌++◌, [], ◌∷◌, Bool, true, false, cond, zero, suc, length, Contains, get_or, sym, ◌∙◌, refl, arith}
use Rattle.std.specs.Cmp.{nat_cmp_is}
use Rattle.std.specs.List.{All, AllByRecursion, filter, range_with_len}
use Rattle.std.specs.List.Sorted.{IsStrictlySortedBy}
use Rattle.std.specs.Ordering.{nat_cmp}
use Rattle.std.specs.declared.cmp.Ordering.TheVariants.{Less}
use Rattle.std.proofs.lemmas.List.Elements.{All-cons, All-head, All-nil, All-tail}
use Rattle.std.proofs.lemmas.List.FromFn.{get_or-range_with_len, length-range_with_len}
use Rattle.std.proofs.lemmas.List.Kept.{IsStrictlySortedBy-filter}
use Rattle.funnel_model.proofs.AnswerLemmas.{Contains-filter}

range-rising : (a n : ℕ) → IsStrictlySortedBy nat_cmp (range_with_len a n)
unfolding IsStrictlySortedBy
range-rising a zero = tt
range-rising a (suc n) = (above (a + 1) n (omega arith), range-rising (a + 1) n)
  where
    above : (b m : ℕ) → a < b → AllByRecursion (λ y. nat_cmp a y ≡ Less) (range_with_len b m)
    above b zero less = tt
    above b (suc m) less = (sym (nat_cmp_is a b Less less), above (b + 1) m (omega arith))

-- they rise
pub passing-rising : (p : ℕ → Bool) (n : ℕ) → IsStrictlySortedBy nat_cmp (filter p (range_with_len 0 n))
passing-rising p n = IsStrictlySortedBy-filter nat_cmp p (range_with_len 0 n) (range-rising 0 n)

-- what holds of each number that passes holds of all of them
pub passing-all : (p : ℕ → Bool) (P : ℕ → Type 0) (a n : ℕ) → ((k : ℕ) → k < a + n → p k ≡ true → P k) → All P (filter p (range_with_len a n))
passing-all p P a zero each = All-nil P
passing-all p P a (suc n) each = here (p a) refl (passing-all p P (a + 1) n (λ k low. each k (omega (arith, low))))
  where
    here : (b : Bool) → p a ≡ b → All P (filter p (range_with_len (a + 1) n)) → All P (cond b (a ∷ filter p (range_with_len (a + 1) n)) (filter p (range_with_len (a + 1) n)))
    here true is later = All-cons P a (filter p (range_with_len (a + 1) n)) (each a (omega arith) is) later
    here false is later = later

-- a number of the range that passes is one of them
pub passing-contains : (p : ℕ → Bool) (n k : ℕ) → k < n → p k ≡ true → Contains (filter p (range_with_len 0 n)) k
passing-contains p n k low passes =
    let is : get_or (range_with_len 0 n) k k ≡ k = get_or-range_with_len 0 n k k low ∙ (let e : 0 + k ≡ k = omega arith in e) in
    let inside : k < length (range_with_len 0 n) = omega (arith, low, length-range_with_len 0 n) in
    Contains-filter p (range_with_len 0 n) k (k, inside, is) passes

-- the front of a list that rises rises
pub front-rising : (front rest : List ℕ) → IsStrictlySortedBy nat_cmp (front ++ rest) → IsStrictlySortedBy nat_cmp front
unfolding IsStrictlySortedBy
front-rising [] rest rising = tt
front-rising (x ∷ xs) rest rising = (less xs rising.0, front-rising xs rest rising.1)
  where
    less : (ys : List ℕ) → AllByRecursion (λ y. nat_cmp x y ≡ Less) (ys ++ rest) → AllByRecursion (λ y. nat_cmp x y ≡ Less) ys
    less [] all = tt
    less (y ∷ ys) all = (all.0, less ys all.1)

-- what holds of a list holds of its front
pub front-all : (P : ℕ → Type 0) (front rest : List ℕ) → All P (front ++ rest) → All P front
front-all P [] rest all = All-nil P
front-all P (x ∷ xs) rest all = All-cons P x xs (All-head P x (xs ++ rest) all) (front-all P xs rest (All-tail P x (xs ++ rest) all))
