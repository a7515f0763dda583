-- The bits of a document at a column are one list.
use Rattle.std.proofs.Common.{◌≡◌, ◌⊎◌, ⊎_elim, zero, suc, List, [], ◌∷◌, Contains, refl, sym, ap, ◌∙◌, subst, arith, inl, inr}
use Rattle.std.proofs.lemmas.Cmp.{nat_cmp_total, on_total, then_total}
use Rattle.std.proofs.lemmas.List.Elements.{All-contains, All-from_recursion}
use Rattle.std.specs.Cmp.{IsTotalOrder}
use Rattle.std.specs.List.{All}
use Rattle.std.specs.List.Sorted.{IsStrictlySortedBy}
use Rattle.std.specs.Ordering.{ordering_reverse}
use Rattle.std.specs.declared.cmp.Ordering.{Ordering}
use Rattle.std.specs.declared.cmp.Ordering.TheVariants.{Less}
use Rattle.funnel_model.proofs.AnswerLemmas.{Contains-cons}
use Rattle.funnel_model.specs.declared.bit_list.Bit.{Bit}
use Rattle.row_layout.specs.DocumentBits.{bit_cmp}
use Rattle.row_layout.specs.Laws.{DocumentsHaveOneListOfBits}

-- what is in a list is its first element or in the rest
pub first_or_rest : {A : Type 0} (x : A) (xs : List A) (y : A) → Contains (x ∷ xs) y → (x ≡ y) ⊎ Contains xs y
first_or_rest x xs y (zero, in', is) = inl is
first_or_rest x xs y (suc k, in', is) = inr (k, omega arith, is)

-- each element after the first is above it
pub above_first : {A : Type 0} (c : A → A → Ordering) (x : A) (xs : List A) → IsStrictlySortedBy c (x ∷ xs) → All (λ y. c x y ≡ Less) xs
unfolding IsStrictlySortedBy
above_first c x xs rising = All-from_recursion (λ y. c x y ≡ Less) xs rising.0

pub rest_rises : {A : Type 0} (c : A → A → Ordering) (x : A) (xs : List A) → IsStrictlySortedBy c (x ∷ xs) → IsStrictlySortedBy c xs
unfolding IsStrictlySortedBy
rest_rises c x xs rising = rising.1

-- what is in a list that begins with x, and above x, is in the rest
in_rest : {A : Type 0} (c : A → A → Ordering) → ((x y : A) → c x y ≡ Less → c y x ≡ Less → ⊥) → (x : A) (xs : List A) (y : A) → c x y ≡ Less →
    Contains (x ∷ xs) y → Contains xs y
in_rest c order x xs y above has =
    ⊎_elim
    (λ (same : x ≡ y). let self : c x x ≡ Less = subst (λ w. c x w ≡ Less) (sym same) above in absurd (order x x self self))
    (λ later. later)
    (first_or_rest x xs y has)

-- lists that rise and have the same elements are the same
pub same_members : {A : Type 0} (c : A → A → Ordering) → ((x y : A) → c x y ≡ Less → c y x ≡ Less → ⊥) → (xs ys : List A) → IsStrictlySortedBy c xs →
    IsStrictlySortedBy c ys → ((x : A) → Contains xs x → Contains ys x) → ((x : A) → Contains ys x → Contains xs x) → xs ≡ ys
same_members c order [] [] rising_xs rising_ys into from = refl
same_members c order [] (y ∷ ys) rising_xs rising_ys into from = let h = from y (0, omega arith, refl) in absurd (omega (arith, h.1))
same_members c order (x ∷ xs) [] rising_xs rising_ys into from = let h = into x (0, omega arith, refl) in absurd (omega (arith, h.1))
same_members {A = A} c order (x ∷ xs) (y ∷ ys) rising_xs rising_ys into from =
    let above_x = λ (z : A) (has : Contains xs z). All-contains (λ w. c x w ≡ Less) xs z (above_first c x xs rising_xs) has in
    let above_y = λ (z : A) (has : Contains ys z). All-contains (λ w. c y w ≡ Less) ys z (above_first c y ys rising_ys) has in
    let first : x ≡ y =
    ⊎_elim (λ (h : y ≡ x). sym h)
    (λ (later : Contains ys x). ⊎_elim (λ (h : x ≡ y). h)
    (λ (later_y : Contains xs y). absurd (order x y (above_x y later_y) (above_y x later)))
    (first_or_rest x xs y (from y (0, omega arith, refl))))
    (first_or_rest y ys x (into x (0, omega arith, refl))) in
    let rest = same_members c order xs ys (rest_rises c x xs rising_xs) (rest_rises c y ys rising_ys)
    (λ z has. in_rest c order y ys z (subst (λ w. c w z ≡ Less) first (above_x z has)) (into z (Contains-cons x xs z has)))
    (λ z has. in_rest c order x xs z (subst (λ w. c w z ≡ Less) (sym first) (above_y z has)) (from z (Contains-cons y ys z has))) in
    ap (λ w. w ∷ xs) first ∙ ap (λ ws. y ∷ ws) rest

-- of two bits one is below the other at most
pub bit_order : IsTotalOrder bit_cmp
bit_order = then_total (on_total (λ (b : Bit). b.word) nat_cmp_total) (on_total (λ (b : Bit). b.bit) nat_cmp_total)

-- so the bits of a document are one list
pub one_list : DocumentsHaveOneListOfBits
one_list room config set slice column bits other are also =
    same_members bit_cmp (λ x y less more. let turned = sym less ∙ bit_order.antisymm x y ∙ ap ordering_reverse more in cc) bits other are.rising also.rising
    (λ b has. (also.exactly b).1 ((are.exactly b).0 has))
    (λ b has. (are.exactly b).1 ((also.exactly b).0 has))
