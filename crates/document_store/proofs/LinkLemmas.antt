-- Lists that are laid out by links: what they are, and what becomes of them where a link changes.
use Rattle.std.proofs.Common.{◌≡◌, ◌≢◌, ◌⊎◌, ⊎_elim, inl, inr, ℕ, zero, suc, ◌+◌, ◌<◌, ◌≤◌, Bool, true, false, cond, eqb, List, [], ◌∷◌, ◌++◌, length, set, refl, sym, ap, ◌∙◌, subst, arith}
use Rattle.std.specs.Prelude.{◌==◌, ◌||◌, nat_lt}
use Rattle.std.specs.List.{AllByRecursion, IsDistinct, list_any}
use Rattle.std.proofs.lemmas.Bool.{cond-false, cond-true, false_from_ne_true, lt-ltb, ltb-true}
use Rattle.std.proofs.lemmas.Bool.Decides.{eqb_tells}
use Rattle.std.proofs.lemmas.List.{get_or-set_other, get_or-set_same, length-set}
use Rattle.std.proofs.lemmas.List.Sums.{sum_by-append, sum_by-cons}
use Rattle.std.proofs.lemmas.Map.Steps.{length-le_from_distinct_below}
use Rattle.document_store.specs.Leaving.{IsListFrom, last_link, link_of, list_from, no_link, times_in}

-- a column is another, or that one
pub one_or_none : (c x : ℕ) → ((c ≡ x) × (◌≡◌ {A = ℕ} (cond (c == x) 1 0) 1)) ⊎ ((c ≢ x) × (◌≡◌ {A = ℕ} (cond (c == x) 1 0) 0))
one_or_none c x =
    ⊎_elim (λ same. inl (same.1, ap (λ (b : Bool). cond {A = ℕ} b 1 0) same.0)) (λ apart. inr (apart.1, ap (λ (b : Bool). cond {A = ℕ} b 1 0) apart.0)) (eqb_tells c x)

pub times-cons : (c x : ℕ) (xs : List ℕ) → times_in c (x ∷ xs) ≡ cond (c == x) 1 0 + times_in c xs
times-cons c x xs = sum_by-cons (λ y. cond {A = ℕ} (c == y) 1 0) x xs

pub times-append : (c : ℕ) (xs ys : List ℕ) → times_in c (xs ++ ys) ≡ times_in c xs + times_in c ys
times-append c xs ys = sum_by-append (λ y. cond {A = ℕ} (c == y) 1 0) xs ys

-- a column is on a list that it is the first of
pub times-first : (x : ℕ) (xs : List ℕ) → times_in x (x ∷ xs) ≡ times_in x xs + 1
times-first x xs = ⊎_elim (λ one. omega (arith, one.1, times-cons x x xs)) (λ none. absurd (none.0 refl)) (one_or_none x x)

-- what is on none of a list's places is apart from the first, and on none of the others
pub times-none : (c x : ℕ) (xs : List ℕ) → times_in c (x ∷ xs) ≡ 0 → (x ≢ c) × (times_in c xs ≡ 0)
times-none c x xs none =
    ⊎_elim (λ one. absurd (omega (arith, one.1, times-cons c x xs, none))) (λ apart. (λ same. apart.0 (sym same), omega (arith, apart.1, times-cons c x xs, none))) (one_or_none c x)

-- a list stays where a link of another column changes
pub list-set : (links : List ℕ) (c v from : ℕ) (xs : List ℕ) → times_in c xs ≡ 0 → IsListFrom links from xs → IsListFrom (set links c v) from xs
list-set links c v from [] none is = is
list-set links c v from (x ∷ xs) none is =
    let apart = times-none c x xs none in (
      is.0,
      omega (arith, length-set links c v, is.1),
      subst (λ n. IsListFrom (set links c v) n xs) (sym (get_or-set_other links c x v last_link apart.0)) (list-set links c v (link_of links x) xs apart.1 is.2),
    )

-- the columns of a list are such
pub list-below : (links : List ℕ) (from : ℕ) (xs : List ℕ) → IsListFrom links from xs → (c : ℕ) → 1 ≤ times_in c xs → c < length links
list-below links from [] is c some = absurd (omega (arith, some))
list-below links from (x ∷ xs) is c some =
    ⊎_elim (λ one. let same = one.0 in let low = is.1 in omega (arith, same, low))
    (λ apart. list-below links (link_of links x) xs is.2 c (omega (arith, apart.1, times-cons c x xs, some))) (one_or_none c x)

any_below : (links : List ℕ) (from : ℕ) (xs : List ℕ) → IsListFrom links from xs → (c : ℕ) → list_any (eqb c) xs ≡ true → c < length links
any_below links from [] is c any = cc
any_below links from (x ∷ xs) is c any =
    ⊎_elim (λ same. let e = same.1 in let low = is.1 in omega (arith, e, low))
    (λ apart. any_below links (link_of links x) xs is.2 c (sym (ap (λ (b : Bool). b || list_any (eqb c) xs) apart.0) ∙ any)) (eqb_tells c x)

-- a list on which no column is twice has no two equal ones
none_equal : (x : ℕ) (xs : List ℕ) → times_in x xs ≡ 0 → AllByRecursion (λ y. eqb x y ≡ false) xs
none_equal x [] none = tt
none_equal x (y ∷ ys) none =
    let apart = times-none x y ys none in (⊎_elim (λ same. absurd (apart.0 (sym same.1))) (λ not. not.0) (eqb_tells x y), none_equal x ys apart.1)

distinct : (xs : List ℕ) → ((c : ℕ) → times_in c xs ≤ 1) → IsDistinct eqb xs
unfolding IsDistinct
distinct [] once = tt
distinct (x ∷ xs) once = (
  none_equal x xs (omega (arith, times-first x xs, once x)),
  distinct xs (λ c. let h = once c in let k = times-cons c x xs in omega (arith, h, k)),
)

pub list-short : (links : List ℕ) (from : ℕ) (xs : List ℕ) → IsListFrom links from xs → ((c : ℕ) → times_in c xs ≤ 1) → length xs ≤ length links
list-short links from xs is once = length-le_from_distinct_below xs (length links) (distinct xs once) (any_below links from xs is)

-- by the links one comes to the columns of the list
pub list-read : (links xs : List ℕ) (n from : ℕ) → length links ≤ last_link → length xs ≤ n → IsListFrom links from xs → list_from links from n ≡ xs
list-read links [] zero from few short is = refl
list-read links [] (suc n) from few short is =
    cond-false (nat_lt from (length links)) (from ∷ list_from links (link_of links from) n) []
    (false_from_ne_true (nat_lt from (length links)) (λ less. let h = ltb-true from (length links) less in omega (arith, h, is, few)))
list-read links (x ∷ xs) zero from few short is = absurd (omega (arith, short))
list-read links (x ∷ xs) (suc n) from few short is =
    cond-true (nat_lt from (length links)) (from ∷ list_from links (link_of links from) n) [] (lt-ltb from (length links) (let h = is.0 in let k = is.1 in omega (arith, h, k)))
    ∙ ap (λ k. k ∷ list_from links (link_of links k) n) is.0
    ∙ ap (λ ys. x ∷ ys) (list-read links xs n (link_of links x) few (omega (arith, short)) is.2)

-- a list that is read is empty where its first link is the last, and else begins with that column
pub list-empty : (links : List ℕ) (from : ℕ) (xs : List ℕ) → length links ≤ last_link → IsListFrom links from xs → from ≡ last_link → xs ≡ []
list-empty links from [] few is last = refl
list-empty links from (x ∷ xs) few is last = absurd (let h = is.0 in let k = is.1 in omega (arith, h, k, last, few))

pub record BeginsWith (links : List ℕ) (from : ℕ) (xs : List ℕ) : Type 0 where
  pub later : List ℕ
  pub is : xs ≡ from ∷ later
  pub below : from < length links
  pub rest : IsListFrom links (link_of links from) later

pub list-begins : (links : List ℕ) (from : ℕ) (xs : List ℕ) → IsListFrom links from xs → from ≢ last_link → BeginsWith links from xs
list-begins links from [] is more = absurd (more is)
list-begins links from (x ∷ xs) is more = record {
  later = xs;
  is = ap (λ k. k ∷ xs) (sym is.0);
  below = let h = is.0 in let k = is.1 in omega (arith, h, k);
  rest = subst (λ k. IsListFrom links (link_of links k) xs) (sym is.0) is.2;
}

-- the first link of a list is no link of a column that is on none
pub first-link : (links : List ℕ) (from : ℕ) (xs : List ℕ) → length links ≤ no_link → IsListFrom links from xs → from ≢ no_link
first-link links from [] few is same = omega (arith, is, same)
first-link links from (x ∷ xs) few is same = let h = is.0 in let k = is.1 in omega (arith, h, k, same, few)

-- where the last column of a list leads on to another list, one comes to the columns of both
pub list-append : (links : List ℕ) (c v from : ℕ) (front ys : List ℕ) → times_in c front ≡ 0 → times_in c ys ≡ 0 → IsListFrom links from (front ++ c ∷ []) → IsListFrom links v ys →
    IsListFrom (set links c v) from ((front ++ c ∷ []) ++ ys)
list-append links c v from [] ys none apart is then = (
  is.0,
  omega (arith, length-set links c v, is.1),
  subst (λ n. IsListFrom (set links c v) n ys) (sym (get_or-set_same links c v last_link is.1)) (list-set links c v v ys apart then),
)
list-append links c v from (x ∷ front) ys none apart is then =
    let other = times-none c x front none in (
      is.0,
      omega (arith, length-set links c v, is.1),
      subst (λ n. IsListFrom (set links c v) n ((front ++ c ∷ []) ++ ys)) (sym (get_or-set_other links c x v last_link other.0))
          (list-append links c v (link_of links x) front ys other.1 apart is.2 then),
    )
