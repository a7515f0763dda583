-- Bits in rising order, each once, are those that were there.
use Rattle.std.proofs.Common.{◌≡◌, ◌⊎◌, ⊎_elim, ◌↔◌, ℕ, List, [], ◌∷◌, Contains, refl, sym, ap, ap₂, ◌∙◌, subst, arith, inl, inr}
use Rattle.std.proofs.lemmas.Cmp.{ranked}
use Rattle.std.specs.List.{AllByRecursion}
use Rattle.std.specs.List.Sorted.{IsStrictlySortedBy}
use Rattle.std.specs.Ordering.{match_ordering, nat_cmp, ordering_reverse, ordering_then}
use Rattle.std.specs.declared.cmp.Ordering.{Ordering}
use Rattle.std.specs.declared.cmp.Ordering.TheVariants.{Less, Equal, Greater}
use Rattle.funnel_model.proofs.AnswerLemmas.{Contains-cons}
use Rattle.funnel_model.specs.declared.bit_list.Bit.{Bit}
use Rattle.row_layout.specs.DocumentBits.{bit_cmp, in_order, with_bit}
use Rattle.row_layout.proofs.OneList.{bit_order, first_or_rest}

-- one of three
by_order : {X : Type 0} (o : Ordering) → (o ≡ Less → X) → (o ≡ Equal → X) → (o ≡ Greater → X) → X
by_order Less less equal greater = less refl
by_order Equal less equal greater = equal refl
by_order Greater less equal greater = greater refl

both_equal : (o p : Ordering) → ordering_then o p ≡ Equal → (o ≡ Equal) × (p ≡ Equal)
both_equal Less p e = cc
both_equal Equal p e = (refl, e)
both_equal Greater p e = cc

-- bits that tie are equal
bits_tie : (a b : Bit) → bit_cmp a b ≡ Equal → a ≡ b
bits_tie a b e =
    let parts = both_equal (nat_cmp a.word b.word) (nat_cmp a.bit b.bit) e in
    let make : ℕ → ℕ → Bit = λ w i. record { word = w; bit = i } in
    ap₂ make (ranked a.word b.word Equal (sym parts.0)) (ranked a.bit b.bit Equal (sym parts.1))

turned : (a b : Bit) → bit_cmp a b ≡ Greater → bit_cmp b a ≡ Less
turned a b e = bit_order.antisymm b a ∙ ap ordering_reverse e

first_is : {A : Type 0} (x : A) (xs : List A) → Contains (x ∷ xs) x
first_is x xs = (0, omega arith, refl)

-- what lies below some bits and below one more lies below them together
below_with : (low : Bit) (bits : List Bit) (bit : Bit) → AllByRecursion (λ b. bit_cmp low b ≡ Less) bits → bit_cmp low bit ≡ Less →
    AllByRecursion (λ b. bit_cmp low b ≡ Less) (with_bit bits bit)
below_with low [] bit below less = (less, tt)
below_with low (first ∷ rest) bit below less = by_order (bit_cmp bit first)
    (λ e. subst (λ o. AllByRecursion (λ b. bit_cmp low b ≡ Less) (match_ordering o (bit ∷ first ∷ rest) (first ∷ rest) (first ∷ with_bit rest bit))) (sym e) (less, below))
    (λ e. subst (λ o. AllByRecursion (λ b. bit_cmp low b ≡ Less) (match_ordering o (bit ∷ first ∷ rest) (first ∷ rest) (first ∷ with_bit rest bit))) (sym e) below)
    (λ e. subst (λ o. AllByRecursion (λ b. bit_cmp low b ≡ Less) (match_ordering o (bit ∷ first ∷ rest) (first ∷ rest) (first ∷ with_bit rest bit))) (sym e)
    (below.0, below_with low rest bit below.1 less))

-- what lies below one bit lies below all that are above this one
below_all : (low bit : Bit) (bits : List Bit) → bit_cmp low bit ≡ Less → AllByRecursion (λ b. bit_cmp bit b ≡ Less) bits → AllByRecursion (λ b. bit_cmp low b ≡ Less) bits
below_all low bit [] less above = tt
below_all low bit (first ∷ rest) less above = (bit_order.trans low bit first less above.0, below_all low bit rest less above.1)

with_rises : (bits : List Bit) (bit : Bit) → IsStrictlySortedBy bit_cmp bits → IsStrictlySortedBy bit_cmp (with_bit bits bit)
unfolding IsStrictlySortedBy
with_rises [] bit rising = (tt, tt)
with_rises (first ∷ rest) bit rising = by_order (bit_cmp bit first)
    (λ e. subst (λ o. IsStrictlySortedBy bit_cmp (match_ordering o (bit ∷ first ∷ rest) (first ∷ rest) (first ∷ with_bit rest bit))) (sym e)
    ((e, below_all bit first rest e rising.0), rising))
    (λ e. subst (λ o. IsStrictlySortedBy bit_cmp (match_ordering o (bit ∷ first ∷ rest) (first ∷ rest) (first ∷ with_bit rest bit))) (sym e) rising)
    (λ e. subst (λ o. IsStrictlySortedBy bit_cmp (match_ordering o (bit ∷ first ∷ rest) (first ∷ rest) (first ∷ with_bit rest bit))) (sym e)
    (below_with first rest bit rising.0 (turned bit first e), with_rises rest bit rising.1))

-- the one more is there, and so is each that was
with_has : (bits : List Bit) (bit other : Bit) → (bit ≡ other) ⊎ Contains bits other → Contains (with_bit bits bit) other
with_has [] bit other has = ⊎_elim (λ same. subst (Contains (bit ∷ [])) same (first_is bit [])) (λ none. let in' = none.1 in absurd (omega arith)) has
with_has (first ∷ rest) bit other has = by_order (bit_cmp bit first)
    (λ e. subst (λ o. Contains (match_ordering o (bit ∷ first ∷ rest) (first ∷ rest) (first ∷ with_bit rest bit)) other) (sym e)
    (⊎_elim (λ same. subst (Contains (bit ∷ first ∷ rest)) same (first_is bit (first ∷ rest))) (λ later. Contains-cons bit (first ∷ rest) other later) has))
    (λ e. subst (λ o. Contains (match_ordering o (bit ∷ first ∷ rest) (first ∷ rest) (first ∷ with_bit rest bit)) other) (sym e)
    (⊎_elim (λ same. subst (Contains (first ∷ rest)) (sym (bits_tie bit first e) ∙ same) (first_is first rest)) (λ later. later) has))
    (λ e. subst (λ o. Contains (match_ordering o (bit ∷ first ∷ rest) (first ∷ rest) (first ∷ with_bit rest bit)) other) (sym e)
    (⊎_elim
    (λ same. Contains-cons first (with_bit rest bit) other (with_has rest bit other (inl same)))
    (λ later. ⊎_elim
    (λ is. subst (Contains (first ∷ with_bit rest bit)) is (first_is first (with_bit rest bit)))
    (λ deeper. Contains-cons first (with_bit rest bit) other (with_has rest bit other (inr deeper)))
    (first_or_rest first rest other later))
    has))

-- and no other is
with_only : (bits : List Bit) (bit other : Bit) → Contains (with_bit bits bit) other → (bit ≡ other) ⊎ Contains bits other
with_only [] bit other has = ⊎_elim (λ same. inl same) (λ none. let in' = none.1 in absurd (omega arith)) (first_or_rest bit [] other has)
with_only (first ∷ rest) bit other has = by_order (bit_cmp bit first)
    (λ e. first_or_rest bit (first ∷ rest) other
    (subst (λ o. Contains (match_ordering o (bit ∷ first ∷ rest) (first ∷ rest) (first ∷ with_bit rest bit)) other) e has))
    (λ e. inr (subst (λ o. Contains (match_ordering o (bit ∷ first ∷ rest) (first ∷ rest) (first ∷ with_bit rest bit)) other) e has))
    (λ e. ⊎_elim
    (λ is. inr (subst (Contains (first ∷ rest)) is (first_is first rest)))
    (λ later. ⊎_elim (λ same. inl same) (λ deeper. inr (Contains-cons first rest other deeper)) (with_only rest bit other later))
    (first_or_rest first (with_bit rest bit) other
    (subst (λ o. Contains (match_ordering o (bit ∷ first ∷ rest) (first ∷ rest) (first ∷ with_bit rest bit)) other) e has)))

-- in order, they rise
pub in_order-rises : (bits : List Bit) → IsStrictlySortedBy bit_cmp (in_order bits)
unfolding IsStrictlySortedBy in_order
in_order-rises [] = tt
in_order-rises (bit ∷ bits) = with_rises (in_order bits) bit (in_order-rises bits)

-- and are the same bits
pub in_order-has : (bits : List Bit) (bit : Bit) → Contains (in_order bits) bit ↔ Contains bits bit
unfolding in_order
in_order-has [] bit = (λ has. has, λ has. has)
in_order-has (first ∷ rest) bit = (
  λ has. ⊎_elim
      (λ same. subst (Contains (first ∷ rest)) same (first_is first rest))
      (λ later. Contains-cons first rest bit ((in_order-has rest bit).0 later))
      (with_only (in_order rest) first bit has),
  λ has. with_has (in_order rest) first bit (⊎_elim (λ same. inl same) (λ later. inr ((in_order-has rest bit).1 later)) (first_or_rest first rest bit has)),
)

-- so where there is none in order, there is none
pub none_in_order : (bits : List Bit) → in_order bits ≡ [] → bits ≡ []
none_in_order [] none = refl
none_in_order (bit ∷ bits) none =
    let has = subst (λ (bs : List Bit). Contains bs bit) none ((in_order-has (bit ∷ bits) bit).1 (first_is bit bits)) in
    let within = has.1 in
    absurd (omega arith)
