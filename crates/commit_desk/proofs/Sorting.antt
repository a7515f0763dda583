-- Lists whose elements rise.
use Rattle.std.proofs.Common.{◌≡◌, ℕ, suc, ◌+◌, ◌<◌, true, false, List, [], ◌∷◌, get_or, map, refl, sym, ap, ◌∙◌, arith, IsSorted}
use Rattle.std.proofs.lemmas.Bool.{eqb-false}
use Rattle.std.proofs.lemmas.Cmp.{nat_cmp_total, on_total, ranked, then_total}
use Rattle.std.proofs.lemmas.List.Elements.{All-map, All-weaker, recursion_from_All}
use Rattle.std.proofs.lemmas.Map.Keys.{apart_from_distinct, sorted_from_all_adjacent}
use Rattle.std.specs.Cmp.{IsTotalOrder, nat_cmp_is}
use Rattle.std.specs.List.{All, AllPairs, IsDistinct}
use Rattle.std.specs.List.Sorted.{IsStrictlySortedBy}
use Rattle.std.specs.Ordering.{is_lt, nat_cmp, ordering_reverse, ordering_then}
use Rattle.std.specs.Prelude.{◌==◌}
use Rattle.std.specs.declared.cmp.Ordering.{Ordering}
use Rattle.std.specs.declared.cmp.Ordering.TheVariants.{Less, Equal, Greater}
use Rattle.document_store.specs.Finding.{pair_cmp}
use Rattle.row_layout.proofs.OneList.{above_first, rest_rises}

pub none_rises : {A : Type 0} (c : A → A → Ordering) → IsStrictlySortedBy c []
unfolding IsStrictlySortedBy
none_rises c = tt

rises_from : {A : Type 0} (c : A → A → Ordering) (x : A) (xs : List A) → All (λ y. c x y ≡ Less) xs → IsStrictlySortedBy c xs → IsStrictlySortedBy c (x ∷ xs)
unfolding IsStrictlySortedBy
rises_from c x xs above rising = (recursion_from_All (λ y. c x y ≡ Less) xs above, rising)

-- a list rises after a function that keeps the order
pub rising-map : {A B : Type 0} (c : A → A → Ordering) (d : B → B → Ordering) (f : A → B) → ((x y : A) → c x y ≡ Less → d (f x) (f y) ≡ Less) →
    (xs : List A) → IsStrictlySortedBy c xs → IsStrictlySortedBy d (map f xs)
rising-map c d f keeps [] rising = none_rises d
rising-map c d f keeps (x ∷ xs) rising =
    rises_from d (f x) (map f xs)
    (All-map (λ y. d (f x) y ≡ Less) f xs (All-weaker (λ y. c x y ≡ Less) (λ y. d (f x) (f y) ≡ Less) (keeps x) xs (above_first c x xs rising)))
    (rising-map c d f keeps xs (rest_rises c x xs rising))

-- a list of which each two elements rise rises
pub rising_from_pairs : {A : Type 0} (c : A → A → Ordering) (xs : List A) → AllPairs (λ x y. c x y ≡ Less) xs → IsStrictlySortedBy c xs
rising_from_pairs c [] pairs = none_rises c
rising_from_pairs c (x ∷ xs) pairs =
    rises_from c x xs (λ k d in'. pairs 0 (suc k) d (omega arith) (omega arith))
    (rising_from_pairs c xs (λ i j d lt in'. pairs (suc i) (suc j) d (omega arith) (omega arith)))

-- a pair whose first part is below another's is below the other
pub pair_below : (x y : ℕ × ℕ) → x.0 < y.0 → pair_cmp x y ≡ Less
pair_below x y below = ap (λ r. ordering_then r (nat_cmp x.1 y.1)) (sym (nat_cmp_is x.0 y.0 Less (let h : x.0 < y.0 = omega arith in h)))

pub pairs_total : IsTotalOrder pair_cmp
pairs_total = then_total (on_total (λ (p : ℕ × ℕ). p.0) nat_cmp_total) (on_total (λ (p : ℕ × ℕ). p.1) nat_cmp_total)

-- pairs are in one order
pub pairs_in_order : (x y : ℕ × ℕ) → pair_cmp x y ≡ Less → pair_cmp y x ≡ Less → ⊥
pairs_in_order x y up down =
    let turned = pairs_total.antisymm x y in cc

-- two orders, one after the other, tie only where the second does
second_ties : (first second : Ordering) → ordering_then first second ≡ Equal → second ≡ Equal
second_ties Less second tie = cc
second_ties Equal second tie = tie
second_ties Greater second tie = cc

-- a pair that isn't above another, and has another second part, is below it
below_by_second : (x y : ℕ × ℕ) → is_lt (pair_cmp y x) ≡ false → (x.1 == y.1) ≡ false → pair_cmp x y ≡ Less
below_by_second x y not_below apart = by (pair_cmp y x) refl where
  by : (r : Ordering) → pair_cmp y x ≡ r → pair_cmp x y ≡ Less
  by Less is = let h : is_lt (pair_cmp y x) ≡ true = ap is_lt is in cc
  by Equal is = absurd (eqb-false x.1 y.1 apart (sym (ranked y.1 x.1 Equal (sym (second_ties (nat_cmp y.0 x.0) (nat_cmp y.1 x.1) is)))))
  by Greater is = pairs_total.antisymm x y ∙ ap ordering_reverse is

-- pairs that don't fall and whose second parts are distinct rise
pub pairs_rise : (xs : List (ℕ × ℕ)) → IsSorted pair_cmp xs → IsDistinct (λ (x y : ℕ × ℕ). x.1 == y.1) xs → IsStrictlySortedBy pair_cmp xs
pairs_rise xs sorted distinct =
    sorted_from_all_adjacent pairs_total xs (0, 0)
    (λ k in'. below_by_second (get_or xs k (0, 0)) (get_or xs (k + 1) (0, 0)) (sorted k (0, 0) (omega arith) in')
    (apart_from_distinct (λ (x y : ℕ × ℕ). x.1 == y.1) xs k (k + 1) (0, 0) distinct (omega arith) in'))
