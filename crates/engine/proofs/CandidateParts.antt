-- The candidates of a slice.
use Rattle.std.proofs.Common.{◌≡◌, ℕ, ◌+◌, ◌-◌, ◌<◌, ◌≤◌, ◌⊎◌, List, [], ◌∷◌, ◌++◌, length, get_or, All, AllPairs, Contains, ap, sym, refl, subst, inl, inr, arith, length-append}
use Rattle.std.specs.List.Sorted.{IsStrictlySortedBy}
use Rattle.std.specs.Ordering.{nat_cmp}
use Rattle.std.proofs.lemmas.Bool.{cases_lt}
use Rattle.std.proofs.lemmas.List.Elements.{All-cons, All-contains, All-contains_itself, All-map, All-nil, All-weaker, Contains-get_or}
use Rattle.std.proofs.lemmas.Map.Keys.{below_from_sorted}
use lib.ListN.{get_or-append}
use lib.Seq.{get_or-append_right}
use Rattle.funnel_model.proofs.AnswerLemmas.{AllPairs-map, Contains-cons}
use Rattle.rank_matcher.specs.Appended.{candidates_of}

-- Pairs of two lists: those of each, and one of each.
pub pairs-append : {A : Type 0} (R : A → A → Type 0) (xs ys : List A) → AllPairs R xs → AllPairs R ys → ((x y : A) → Contains xs x → Contains ys y → R x y) → AllPairs R (xs ++ ys)
pairs-append {A = A} R xs ys first second between i j d lt within = low_j (cases_lt j (length xs)) where
  long : length (xs ++ ys) ≡ length xs + length ys
  long = length-append xs ys

  at_left : (k : ℕ) → k < length xs → get_or xs k d ≡ get_or (xs ++ ys) k d
  at_left k low = sym (get_or-append xs ys d k low)

  at_right : (k : ℕ) → length xs ≤ k → get_or ys (k - length xs) d ≡ get_or (xs ++ ys) k d
  at_right k high = sym (get_or-append_right xs ys k d high)

  low_i : length xs ≤ j → (i < length xs) ⊎ (length xs ≤ i) → R (get_or (xs ++ ys) i d) (get_or (xs ++ ys) j d)
  low_i high (inl low) =
      subst (λ x. R x (get_or (xs ++ ys) j d)) (at_left i low)
      (subst (R (get_or xs i d)) (at_right j high)
      (between (get_or xs i d) (get_or ys (j - length xs) d) (Contains-get_or xs i d low) (Contains-get_or ys (j - length xs) d (omega (arith, high, within, long)))))
  low_i high (inr above) =
      subst (λ x. R x (get_or (xs ++ ys) j d)) (at_right i above)
      (subst (R (get_or ys (i - length xs) d)) (at_right j high)
      (second (i - length xs) (j - length xs) d (omega (arith, lt, above, high)) (omega (arith, high, within, long))))

  low_j : (j < length xs) ⊎ (length xs ≤ j) → R (get_or (xs ++ ys) i d) (get_or (xs ++ ys) j d)
  low_j (inl low) = subst (λ x. R x (get_or (xs ++ ys) j d)) (at_left i (omega (arith, lt, low))) (subst (R (get_or xs i d)) (at_left j low) (first i j d lt low))
  low_j (inr high) = low_i high (cases_lt i (length xs))

-- The candidates of one slice.
module _ (slice : ℕ) where
  -- one of them is a column of the slice
  pub candidate_is : (columns : List ℕ) (candidate : ℕ × ℕ) → Contains (candidates_of slice columns) candidate → (candidate.0 ≡ slice) × Contains columns candidate.1
  candidate_is columns candidate has =
      All-contains (λ (c : ℕ × ℕ). (c.0 ≡ slice) × Contains columns c.1) (candidates_of slice columns) candidate
      (All-map (λ (c : ℕ × ℕ). (c.0 ≡ slice) × Contains columns c.1) (λ column. (slice, column)) columns
      (All-weaker (Contains columns) (λ column. (slice ≡ slice) × Contains columns column) (λ column of_columns. (refl, of_columns)) columns (All-contains_itself columns)))
      has

  pub candidate_of_column : (columns : List ℕ) (column : ℕ) → Contains columns column → Contains (candidates_of slice columns) (slice, column)
  candidate_of_column columns column has = All-contains (λ c. Contains (candidates_of slice columns) (slice, c)) columns column (each columns) has where
    each : (xs : List ℕ) → All (λ c. Contains (candidates_of slice xs) (slice, c)) xs
    each [] = All-nil (λ c. Contains (candidates_of slice []) (slice, c))
    each (x ∷ xs) =
        All-cons (λ c. Contains (candidates_of slice (x ∷ xs)) (slice, c)) x xs (0, omega arith, refl)
        (All-weaker (λ c. Contains (candidates_of slice xs) (slice, c)) (λ c. Contains (candidates_of slice (x ∷ xs)) (slice, c)) (λ c later. Contains-cons (slice, x) (candidates_of slice xs) (slice, c) later) xs (each xs))

  -- columns that rise give each candidate once
  pub candidates_once : (columns : List ℕ) → IsStrictlySortedBy nat_cmp columns → AllPairs (λ (candidate other : ℕ × ℕ). candidate ≡ other → ⊥) (candidates_of slice columns)
  candidates_once columns rising =
      AllPairs-map (λ (candidate other : ℕ × ℕ). candidate ≡ other → ⊥) (λ column. (slice, column)) columns
      (λ i j d lt within same. absurd (omega (arith, below_from_sorted columns i j d rising lt within, ap (λ (c : ℕ × ℕ). c.1) same)))
