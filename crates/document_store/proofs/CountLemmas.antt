-- How many items of a list pass a test, after a write and where all do.
use Rattle.std.proofs.Common.{◌≡◌, ℕ, ◌+◌, ◌<◌, Bool, true, false, cond, List, [], ◌∷◌, length, get_or, set, refl, arith}
use Rattle.std.proofs.lemmas.List.Sums.{count_by-le-length, sum_by-cons, sum_by-set}
use Rattle.std.proofs.lemmas.List.Elements.{All-cons, All-head, All-nil, All-tail}
use Rattle.std.specs.List.{AllPass, count_by}

-- another item in the place of one
pub count_by-set : {X : Type 0} (p : X → Bool) (xs : List X) (i : ℕ) (y d : X) → i < length xs →
    count_by p (set xs i y) + cond (p (get_or xs i d)) 1 0 ≡ count_by p xs + cond (p y) 1 0
count_by-set p xs i y d within = sum_by-set (λ x. cond (p x) 1 0) xs i y d within

-- where all pass, the count is the length
pub count_by-all : {X : Type 0} (p : X → Bool) (xs : List X) → AllPass p xs → count_by p xs ≡ length xs
count_by-all p [] all = refl
count_by-all p (x ∷ xs) all =
    let rest = count_by-all p xs (All-tail (λ y. p y ≡ true) x xs all) in
    let here : ◌≡◌ {A = ℕ} (cond (p x) 1 0) 1 = rw (All-head (λ y. p y ≡ true) x xs all) refl in
    omega (arith, rest, here, sum_by-cons (λ y. cond {A = ℕ} (p y) 1 0) x xs)

passes_if_counted : (b : Bool) (count n : ℕ) → cond b 1 0 + count ≡ n + 1 → count < n + 1 → b ≡ true
passes_if_counted true count n e low = refl
passes_if_counted false count n e low = absurd (omega arith)

-- and the other way round
pub all_pass-from_count : {X : Type 0} (p : X → Bool) (xs : List X) → count_by p xs ≡ length xs → AllPass p xs
all_pass-from_count p [] count = All-nil (λ y. p y ≡ true)
all_pass-from_count p (x ∷ xs) count =
    let low = count_by-le-length p xs in
    let more = sum_by-cons (λ y. cond {A = ℕ} (p y) 1 0) x xs in
    let here : p x ≡ true = passes_if_counted (p x) (count_by p xs) (length xs) (omega (arith, count, more)) (omega (arith, low)) in
    let one : ◌≡◌ {A = ℕ} (cond (p x) 1 0) 1 = rw here refl in
    All-cons (λ y. p y ≡ true) x xs here (all_pass-from_count p xs (omega (arith, count, one, more)))
