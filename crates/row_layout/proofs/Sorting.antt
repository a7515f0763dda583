-- A sort and a `dedup` leave exactly the rows that there were, in strict order.
use Rattle.std.proofs.Common.{◌≡◌, ℕ, zero, suc, Bool, true, false, true≢false, eqb, ◌&&◌, List, [], ◌∷◌, get_or, Contains, ◌↔◌, sym, refl, ap, ◌∙◌, subst, arith}
use Rattle.std.specs.Cmp.{IsTotalOrder, IsEquivalence, nat_cmp_is}
use Rattle.std.specs.List.{All, AllPairs, dedup, dedup_from}
use Rattle.std.specs.List.Sorted.{IsSorted, IsStrictlySortedBy, IsPermutation}
use Rattle.std.specs.Ordering.{is_eq, is_lt, eq_by_cmp, nat_cmp, ordering_reverse, ordering_then}
use Rattle.std.specs.declared.cmp.Ordering.{Ordering}
use Rattle.std.specs.declared.cmp.Ordering.TheVariants.{Less, Equal, Greater}
use Rattle.std.proofs.lemmas.Bool.{cond_both}
use Rattle.std.proofs.lemmas.Bool.Decides.{nat_tests}
use Rattle.std.proofs.lemmas.Cmp.{and_equiv, back_total, nat_cmp_total, nat_eq_equiv, on_equiv, on_total, ranked, then_total}
use Rattle.std.proofs.lemmas.List.Elements.{recursion_from_All, All-cons, All-head, All-tail}
use Rattle.std.proofs.lemmas.List.Filters.{All-dedup}
use Rattle.std.proofs.lemmas.List.Kept.{Contains-dedup, Contains-from_dedup}
use Rattle.std.proofs.lemmas.List.Sorted.{sorted_far, ranks_by, All-permutation, Contains-permutation, IsPermutation-sym}
use Rattle.funnel_model.specs.Configuration.{IsInRange}
use Rattle.funnel_model.specs.declared.config.Config.{Config}
use Rattle.row_layout.specs.Orders.{plan_cmp}
use Rattle.row_layout.specs.Rows.{IsRowOf}
use Rattle.row_layout.specs.declared.row.Row.{Row}
use Rattle.row_layout.proofs.Spans.{same_row}

-- whether two rows are equal, as `==` says
abbrev pub row_eq : Row → Row → Bool
row_eq a b = eqb a.start b.start && (eqb a.width b.width && eqb a.rank b.rank)

row_eq-equiv : IsEquivalence row_eq
row_eq-equiv = and_equiv (on_equiv (λ (row : Row). row.start) nat_eq_equiv) (and_equiv (on_equiv (λ (row : Row). row.width) nat_eq_equiv) (on_equiv (λ (row : Row). row.rank) nat_eq_equiv))

row_from_parts : (a b : Row) → a.rank ≡ b.rank → a.start ≡ b.start → a.width ≡ b.width → a ≡ b
row_from_parts a b e f g =
    let make : ℕ → ℕ → ℕ → Row = λ r s w. record { rank = r; start = s; width = w } in
    ap (λ r. make r a.start a.width) e ∙ ap (λ s. make b.rank s a.width) f ∙ ap (λ w. make b.rank b.start w) g

same_from_eq : (a b : Row) → row_eq a b ≡ true → a ≡ b
same_from_eq a b e = row_from_parts a b (grind (arith, nat_tests)) (grind (arith, nat_tests)) (grind (arith, nat_tests))

same_bools : (a b : Bool) → (a ≡ true → b ≡ true) → (b ≡ true → a ≡ true) → a ≡ b
same_bools true b h k = sym (h refl)
same_bools false true h k = k refl
same_bools false false h k = refl

less_from : (a : Ordering) → (is_lt a ≡ false → ⊥) → a ≡ Less
less_from Less h = refl
less_from Equal h = absurd (h refl)
less_from Greater h = absurd (h refl)

above_reversed : (a : Ordering) → is_lt a ≡ false → is_eq a ≡ false → ordering_reverse a ≡ Less
above_reversed Less p q = absurd (true≢false p)
above_reversed Equal p q = absurd (true≢false q)
above_reversed Greater p q = refl

module _ {X : Type 0} {R : X → X → Ordering} (o : IsTotalOrder R) {E : X → X → Bool} (P : X → Type 0) (ties : (x y : X) → P x → P y → E x y ≡ eq_by_cmp R x y) where
  below_next : (k x y : X) → R k x ≡ Less → is_lt (R y x) ≡ false → R k y ≡ Less
  below_next k x y l n = less_from (R k y) (λ f. true≢false (ap is_lt (sym l) ∙ (ranks_by o (λ a. a)).chain k y x f n))

  -- none of xs is below k, the last element kept
  strict_from : (xs : List X) (k : X) → P k → All P xs → All (λ y. is_lt (R y k) ≡ false) xs → AllPairs (λ a b. is_lt (R b a) ≡ false) xs → IsStrictlySortedBy R (dedup_from E k xs)
  unfolding IsStrictlySortedBy
  strict_from [] k known all above up = (tt, tt)
  strict_from (x ∷ xs) k known all above up =
      let rest : AllPairs (λ a b. is_lt (R b a) ≡ false) xs = λ i j d below inside. up (suc i) (suc j) d (omega arith) (omega arith) in
      let from_x : All (λ y. is_lt (R y x) ≡ false) xs = λ j d inside. up zero (suc j) d (omega arith) (omega arith) in
      let low = All-head (λ y. is_lt (R y k) ≡ false) x xs above in
      let known_x = All-head P x xs all in
      let later = All-tail P x xs all in
      cond_both (E x k) (dedup_from E k xs) (k ∷ dedup_from E x xs) (IsStrictlySortedBy R)
      (λ _. strict_from xs k known later (All-tail (λ y. is_lt (R y k) ≡ false) x xs above) rest)
      (λ f.
      let first : R k x ≡ Less = o.antisymm k x ∙ above_reversed (R x k) low (sym (ties x k known_x known) ∙ f) in
      let higher : All (λ y. R k y ≡ Less) (x ∷ xs) = All-cons (λ y. R k y ≡ Less) x xs first (λ j d inside. below_next k x (get_or xs j d) first (from_x j d inside)) in
      (recursion_from_All (λ y. R k y ≡ Less) (dedup_from E x xs) (All-dedup E (λ y. R k y ≡ Less) (x ∷ xs) higher), strict_from xs x known_x later from_x rest))

  -- `dedup` leaves a sorted list strictly sorted, where elements that tie are equal
  pub strict_from_sorted : (xs : List X) → All P xs → IsSorted R xs → IsStrictlySortedBy R (dedup E xs)
  unfolding IsStrictlySortedBy
  strict_from_sorted [] all h = tt
  strict_from_sorted (x ∷ xs) all h =
      let far : AllPairs (λ a b. is_lt (R b a) ≡ false) (x ∷ xs) = λ i j d below inside. sorted_far _ (ranks_by o (λ a. a)) (x ∷ xs) h i j d (omega arith) inside in
      strict_from xs x (All-head P x xs all) (All-tail P x xs all) (λ j d inside. far zero (suc j) d (omega arith) (omega arith)) (λ i j d below inside. far (suc i) (suc j) d (omega arith) (omega arith))

-- after a sort and a `dedup` there are exactly the rows that there were
pub kept_exactly : (rows sorted : List Row) → IsPermutation rows sorted → (row : Row) → Contains (dedup row_eq sorted) row ↔ Contains rows row
kept_exactly rows sorted moved row = (
  λ has. Contains-permutation sorted rows row (IsPermutation-sym rows sorted moved) (Contains-from_dedup row_eq sorted row has),
  λ has. Contains-dedup row_eq-equiv same_from_eq sorted row (Contains-permutation rows sorted row moved has),
)

pub kept_all : (P : Row → Type 0) (rows sorted : List Row) → IsPermutation rows sorted → All P rows → All P (dedup row_eq sorted)
kept_all P rows sorted moved all = All-dedup row_eq P sorted (All-permutation P rows sorted moved all)

equal_from : (o : Ordering) → is_eq o ≡ true → o ≡ Equal
equal_from Less e = cc
equal_from Equal e = refl
equal_from Greater e = cc

tied_numbers : (a b : ℕ) → is_eq (nat_cmp a b) ≡ true → a ≡ b
tied_numbers a b e = ranked a b Equal (sym (equal_from (nat_cmp a b) e))

numbers_tie : (a b : ℕ) → a ≡ b → nat_cmp a b ≡ Equal
numbers_tie a b e = sym (nat_cmp_is a b Equal e)

later_ties : (o p : Ordering) → is_eq (ordering_then o p) ≡ true → is_eq p ≡ true
later_ties Less p e = cc
later_ties Equal p e = e
later_ties Greater p e = cc

starts_of_same : (a b : Row) → a ≡ b → (a.start ≡ b.start) × (b.rank ≡ a.rank)
starts_of_same a b e = (ap (λ (row : Row). row.start) e, ap (λ (row : Row). row.rank) (sym e))

pub plan_total : IsTotalOrder plan_cmp
plan_total = then_total (back_total (on_total (λ (row : Row). row.rank) nat_cmp_total)) (on_total (λ (row : Row). row.start) nat_cmp_total)

module _ (config : Config) (range : IsInRange config) where
  eq_from_start : (a b : Row) → IsRowOf config a → IsRowOf config b → a.start ≡ b.start → row_eq a b ≡ true
  eq_from_start a b laid laid' e = subst (λ row. row_eq a row ≡ true) (same_row config range a b laid laid' e) (row_eq-equiv.refl a)

  plan_ties : (a b : Row) → IsRowOf config a → IsRowOf config b → row_eq a b ≡ eq_by_cmp plan_cmp a b
  plan_ties a b laid laid' =
      same_bools (row_eq a b) (eq_by_cmp plan_cmp a b)
      (λ e.
      let same = starts_of_same a b (same_from_eq a b e) in
      ap (λ r. is_eq (ordering_then r (nat_cmp a.start b.start))) (numbers_tie b.rank a.rank same.1) ∙ ap is_eq (numbers_tie a.start b.start same.0))
      (λ e. eq_from_start a b laid laid' (tied_numbers a.start b.start (later_ties (nat_cmp b.rank a.rank) (nat_cmp a.start b.start) e)))

  -- rows sorted by falling rank and then by start, each once
  pub planned_from_sorted : (rows : List Row) → All (IsRowOf config) rows → IsSorted plan_cmp rows → IsStrictlySortedBy plan_cmp (dedup row_eq rows)
  planned_from_sorted rows all sorted = strict_from_sorted plan_total (IsRowOf config) plan_ties rows all sorted
