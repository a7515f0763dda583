-- Words with their counts, put in order.
use Rattle.std.proofs.Common.{◌≡◌, ◌∙◌, ◌+◌, ◌<◌, ℕ, zero, suc, Bool, true, false, List, [], ◌∷◌, IsPermutation, String, Global, sum_by, map, length, get_or, take, filter, refl, sym, ap, ap₂, subst, arith}
use Rattle.std.proofs.lemmas.Bool.{true≢false}
use Rattle.std.proofs.lemmas.Cmp.{back_total, nat_cmp_total, nat_list_cmp_total, nat_list_eq_equiv, on_total, then_total}
use Rattle.std.proofs.lemmas.List.{get_or-map, length-map}
use Rattle.std.proofs.lemmas.List.Sorted.{IsPermutation-map}
use Rattle.std.proofs.lemmas.Map.Keys.{IsDistinct-IsPermutation, apart_from_distinct, sorted_from_all_adjacent}
use Rattle.std.proofs.lemmas.Map.Made.{IsDistinct-keys_filter}
use Rattle.std.proofs.lemmas.Map.Text.{is_eq-slice_cmp}
use Rattle.std.specs.Cmp.{IsTotalOrder}
use Rattle.std.specs.Cmp.Lexicographic.{slice_cmp}
use Rattle.std.specs.List.{AllByRecursion, IsDistinct}
use Rattle.std.specs.List.Sorted.{IsSorted, IsStrictlySortedBy}
use Rattle.std.specs.Ordering.{is_eq, is_lt, nat_cmp, ordering_reverse, ordering_then}
use Rattle.std.specs.Str.{bytes_eq}
use Rattle.std.specs.declared.cmp.Ordering.{Ordering}
use Rattle.std.specs.declared.cmp.Ordering.TheVariants.{Equal, Greater, Less}
use Rattle.funnel_model.specs.Listed.{IsInByteOrder}
use Rattle.std.proofs.lemmas.List.Sums.{sum_by-cons}
use Rattle.std.specs.declared.cmp.Reverse.{Reverse}
use Rattle.fit.specs.Listings.{by_count}
use Rattle.fit.specs.Steps.{ranked}
use Rattle.fit.specs.Tallies.{total}

-- a sorted list is sorted by what is seen of its members
pub sorted-map : {P X : Type 0} (see : P → X) (R : X → X → Ordering) (ps : List P) → IsSorted (λ a b. R (see a) (see b)) ps → IsSorted R (map see ps)
sorted-map see R [] sorted k d from below = absurd (omega arith)
sorted-map see R (p ∷ ps) sorted k d from below =
    let less : k + 1 < length (p ∷ ps) = subst (λ (n : ℕ). k + 1 < n) (length-map (p ∷ ps) see) below in
    ap is_lt (ap₂ R (get_or-map see (p ∷ ps) (k + 1) p d less) (get_or-map see (p ∷ ps) k p d (omega (arith, less)))) ∙ sorted k p from less

-- what is not after and not equal is before
before : (o r : Ordering) → r ≡ ordering_reverse o → is_lt r ≡ false → (o ≡ Equal → ⊥) → o ≡ Less
before Less r is not differs = refl
before Equal r is not differs = absurd (differs refl)
before Greater r is not differs = absurd (true≢false (sym (ap is_lt is) ∙ not))

-- sorted members that differ rise
pub strict_from_sorted : {X : Type 0} {R : X → X → Ordering} (o : IsTotalOrder R) (same : X → X → Bool) → ((x y : X) → R x y ≡ Equal → same x y ≡ true)
    → (xs : List X) → IsSorted R xs → IsDistinct same xs → IsStrictlySortedBy R xs
unfolding IsStrictlySortedBy
strict_from_sorted o same ties [] sorted distinct = tt
strict_from_sorted {X} {R} o same ties (x ∷ xs) sorted distinct =
    sorted_from_all_adjacent o (x ∷ xs) x
    (λ k less. before (R (get_or (x ∷ xs) k x) (get_or (x ∷ xs) (k + 1) x)) (R (get_or (x ∷ xs) (k + 1) x) (get_or (x ∷ xs) k x))
    (o.antisymm (get_or (x ∷ xs) (k + 1) x) (get_or (x ∷ xs) k x)) (sorted k x (omega arith) less)
    (λ tied. true≢false (sym (ties (get_or (x ∷ xs) k x) (get_or (x ∷ xs) (k + 1) x) tied) ∙ apart_from_distinct same (x ∷ xs) k (k + 1) x distinct (omega arith) less)))

-- two entries with the same word
abbrev pub same_word : List ℕ × ℕ → List ℕ × ℕ → Bool
same_word a b = bytes_eq a.0 b.0

-- the words of a list with counts
abbrev pub words_in : List (List ℕ × ℕ) → List (List ℕ)
words_in entries = map (λ entry. entry.0) entries

apart-entries : (e : List ℕ × ℕ) (es : List (List ℕ × ℕ)) → AllByRecursion (λ w. bytes_eq e.0 w ≡ false) (words_in es) → AllByRecursion (λ y. same_word e y ≡ false) es
apart-entries e [] apart = tt
apart-entries e (f ∷ es) apart = (apart.0, apart-entries e es apart.1)

pub distinct-entries : (es : List (List ℕ × ℕ)) → IsDistinct bytes_eq (words_in es) → IsDistinct same_word es
unfolding IsDistinct
distinct-entries [] distinct = tt
distinct-entries (e ∷ es) distinct = (apart-entries e es distinct.0, distinct-entries es distinct.1)

apart-take : (w : List ℕ) (n : ℕ) (es : List (List ℕ × ℕ)) → AllByRecursion (λ y. bytes_eq w y ≡ false) (words_in es) → AllByRecursion (λ y. bytes_eq w y ≡ false) (words_in (take n es))
apart-take w zero es apart = tt
apart-take w (suc n) [] apart = tt
apart-take w (suc n) (e ∷ es) apart = (apart.0, apart-take w n es apart.1)

-- the first words differ too
pub distinct-take : (n : ℕ) (es : List (List ℕ × ℕ)) → IsDistinct bytes_eq (words_in es) → IsDistinct bytes_eq (words_in (take n es))
unfolding IsDistinct
distinct-take zero es distinct = tt
distinct-take (suc n) [] distinct = tt
distinct-take (suc n) (e ∷ es) distinct = (apart-take e.0 n es distinct.0, distinct-take n es distinct.1)

-- words that pass a test and are put in another order differ still
pub distinct-ranked : (test : List ℕ × ℕ → Bool) (tally ranking : List (List ℕ × ℕ)) → IsDistinct bytes_eq (words_in tally) → IsPermutation (filter test tally) ranking
    → IsDistinct bytes_eq (words_in ranking)
distinct-ranked test tally ranking distinct permuted =
    IsDistinct-IsPermutation bytes_eq nat_list_eq_equiv.symm (words_in (filter test tally)) (words_in ranking)
    (IsPermutation-map (λ (entry : List ℕ × ℕ). entry.0) (filter test tally) ranking permuted) (IsDistinct-keys_filter bytes_eq test tally distinct)

second_equal : (p q : Ordering) → ordering_then p q ≡ Equal → q ≡ Equal
second_equal Less q is = let e : Less ≡ Equal = is in cc
second_equal Equal q is = is
second_equal Greater q is = let e : Greater ≡ Equal = is in cc

tied_words : (x y : List ℕ) → slice_cmp nat_cmp x y ≡ Equal → bytes_eq x y ≡ true
tied_words x y tied = sym (is_eq-slice_cmp x y) ∙ ap is_eq tied

by_count_total : IsTotalOrder by_count
by_count_total = then_total (on_total (λ (entry : List ℕ × ℕ). entry.1) (back_total nat_cmp_total)) (on_total (λ (entry : List ℕ × ℕ). entry.0) nat_list_cmp_total)

-- sorted words that differ rise in the order in which they are taken
pub strict-by_count : (es : List (List ℕ × ℕ)) → IsSorted by_count es → IsDistinct bytes_eq (words_in es) → IsStrictlySortedBy by_count es
strict-by_count es sorted distinct =
    strict_from_sorted by_count_total same_word
    (λ x y tied. tied_words x.0 y.0 (second_equal (nat_cmp y.1 x.1) (slice_cmp nat_cmp x.0 y.0) tied)) es sorted (distinct-entries es distinct)

first_not : (p q : Ordering) → is_lt (ordering_then p q) ≡ false → is_lt p ≡ false
first_not Less q not = not
first_not Equal q not = refl
first_not Greater q not = refl

-- sorted by their words first, words that differ stand in byte order
pub in_byte_order : (es : List (List ℕ × ℕ)) → IsSorted (λ a b. ordering_then (slice_cmp nat_cmp a.0 b.0) (nat_cmp a.1 b.1)) es → IsDistinct bytes_eq (words_in es) → IsInByteOrder es
in_byte_order es sorted distinct =
    strict_from_sorted nat_list_cmp_total bytes_eq tied_words (words_in es)
    (sorted-map (λ (entry : List ℕ × ℕ). entry.0) (slice_cmp nat_cmp) es (λ k d from below. first_not _ _ (sorted k d from below))) distinct

-- words in another order differ still
pub distinct-moved : (xs ys : List (List ℕ × ℕ)) → IsDistinct bytes_eq (words_in xs) → IsPermutation xs ys → IsDistinct bytes_eq (words_in ys)
distinct-moved xs ys distinct moved =
    IsDistinct-IsPermutation bytes_eq nat_list_eq_equiv.symm (words_in xs) (words_in ys) (IsPermutation-map (λ (entry : List ℕ × ℕ). entry.0) xs ys moved) distinct

-- the counts of a ranking together
pub total-ranked : (es : List (Reverse ℕ × String Global)) → total (map ranked es) ≡ sum_by (λ entry. entry.0.0) es
total-ranked [] = refl
total-ranked (e ∷ es) =
    omega (arith, sum_by-cons (λ (entry : List ℕ × ℕ). entry.1) (ranked e) (map ranked es), sum_by-cons (λ (entry : Reverse ℕ × String Global). entry.0.0) e es, total-ranked es)
