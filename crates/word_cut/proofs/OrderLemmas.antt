-- Words that are sorted and made distinct, by the lists of their bytes.
use Rattle.std.proofs.Common.{◌≡◌, ◌↔◌, ◌⊎◌, inl, inr, ⊎_elim, ℕ, ◌+◌, ◌<◌, Bool, true, false, cond, List, [], ◌∷◌, ◌++◌, map, length, refl, sym, ap, ap₂, ◌∙◌, subst, arith}
use Rattle.std.proofs.lemmas.Cmp.{nat_list_cmp_total, nat_list_eq_equiv}
use Rattle.std.proofs.lemmas.List.{get_or-map, length-map, map-append}
use Rattle.std.proofs.lemmas.List.Elements.{Contains-append_left, Contains-push, Contains-push_cases}
use Rattle.std.proofs.lemmas.List.Kept.{Contains-dedup, Contains-from_dedup, IsStrictlySortedBy-dedup}
use Rattle.std.proofs.lemmas.List.Sorted.{Contains-permutation, IsPermutation-sym}
use Rattle.std.proofs.lemmas.Map.Text.{is_eq-slice_cmp}
use Rattle.std.proofs.lemmas.Slice.Eq.{bytes_eq-Decides}
use Rattle.std.specs.Cmp.Lexicographic.{slice_cmp}
use Rattle.std.specs.List.{Contains, dedup, dedup_from}
use Rattle.std.specs.List.Sorted.{IsPermutation, IsSorted, IsSortedBy}
use Rattle.std.specs.Ordering.{is_lt, nat_cmp}
use Rattle.std.specs.Str.{bytes_eq}
use Rattle.funnel_model.specs.Words.{IsRising}

-- values that have the bytes of a word
module _ {W : Type 0} (bytes : W → List ℕ) where
  -- two that have the same bytes
  abbrev pub same_word : W → W → Bool
  same_word a b = bytes_eq (bytes a) (bytes b)

  by_test : (b : Bool) (xs ys : List W) → map bytes (cond b xs ys) ≡ cond b (map bytes xs) (map bytes ys)
  by_test true xs ys = refl
  by_test false xs ys = refl

  bytes-dedup_from : (k : W) (xs : List W) → map bytes (dedup_from same_word k xs) ≡ dedup_from bytes_eq (bytes k) (map bytes xs)
  bytes-dedup_from k [] = refl
  bytes-dedup_from k (x ∷ xs) =
      by_test (same_word x k) (dedup_from same_word k xs) (k ∷ dedup_from same_word x xs)
      ∙ ap (λ (ws : List (List ℕ)). cond (bytes_eq (bytes x) (bytes k)) ws (map bytes (k ∷ dedup_from same_word x xs))) (bytes-dedup_from k xs)
      ∙ ap (λ (ws : List (List ℕ)). cond (bytes_eq (bytes x) (bytes k)) (dedup_from bytes_eq (bytes k) (map bytes xs)) (bytes k ∷ ws)) (bytes-dedup_from x xs)

  -- the bytes are made distinct as the words are
  pub bytes-dedup : (xs : List W) → map bytes (dedup same_word xs) ≡ dedup bytes_eq (map bytes xs)
  bytes-dedup [] = refl
  bytes-dedup (x ∷ xs) = bytes-dedup_from x xs

  -- words that a sort left in order have bytes in order
  pub bytes-sorted : (xs : List W) → IsSortedBy (λ a b. is_lt (slice_cmp nat_cmp (bytes a) (bytes b))) xs → IsSorted (slice_cmp nat_cmp) (map bytes xs)
  bytes-sorted [] sorted k d from below = absurd (omega arith)
  bytes-sorted (x ∷ xs) sorted k d from below =
      let less : k + 1 < length (x ∷ xs) = subst (λ (n : ℕ). k + 1 < n) (length-map (x ∷ xs) bytes) below in
      ap is_lt (ap₂ (slice_cmp nat_cmp) (get_or-map bytes (x ∷ xs) (k + 1) x d less) (get_or-map bytes (x ∷ xs) k x d (omega (arith, less))))
      ∙ sorted k x from less

  -- one word more
  pub bytes-push : (xs ys : List W) (x : W) (word : List ℕ) → ys ≡ xs ++ x ∷ [] → Contains (map bytes ys) word ↔ (Contains (map bytes xs) word ⊎ (word ≡ bytes x))
  bytes-push xs ys x word push =
      let all : map bytes ys ≡ map bytes xs ++ bytes x ∷ [] = ap (map bytes) push ∙ map-append bytes xs (x ∷ []) in (
        λ has. ⊎_elim (λ before. inl before) (λ same. inr (sym same)) (Contains-push_cases (map bytes xs) (bytes x) word (subst (λ (ws : List (List ℕ)). Contains ws word) all has)),
        λ has.
            subst (λ (ws : List (List ℕ)). Contains ws word) (sym all)
            (⊎_elim
            (λ before. Contains-append_left (map bytes xs) (bytes x ∷ []) word before)
            (λ same. subst (λ w. Contains (map bytes xs ++ bytes x ∷ []) w) (sym same) (Contains-push (map bytes xs) (bytes x)))
            has),
      )

-- words in order that are made distinct rise
pub dedup-rises : (words : List (List ℕ)) → IsSorted (slice_cmp nat_cmp) words → IsRising (dedup bytes_eq words)
dedup-rises words sorted = IsStrictlySortedBy-dedup nat_list_cmp_total (λ x y. sym (is_eq-slice_cmp x y)) words sorted

-- the words of a list are those that it has when it was put in another order and made distinct
pub dedup-members : (xs ys : List (List ℕ)) → IsPermutation xs ys → (word : List ℕ) → Contains (dedup bytes_eq ys) word ↔ Contains xs word
dedup-members xs ys permuted word = (
  λ has. Contains-permutation ys xs word (IsPermutation-sym xs ys permuted) (Contains-from_dedup bytes_eq ys word has),
  λ has. Contains-dedup nat_list_eq_equiv (λ x y. (bytes_eq-Decides x y).0) ys word (Contains-permutation xs ys word permuted has),
)
