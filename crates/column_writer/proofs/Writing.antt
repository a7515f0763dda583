-- One bit more.
use Rattle.std.proofs.Common.{◌≡◌, ◌⊎◌, ◌↔◌, ⊎_elim, inl, inr, ℕ, zero, suc, ◌<◌, List, [], ◌∷◌, ◌++◌, get_or, refl, sym, ap, ◌∙◌, subst, arith}
use Rattle.std.proofs.lemmas.List.{get_or_default}
use Rattle.std.proofs.lemmas.List.Elements.{All-contains, Contains-append_cases, Contains-append_left, Contains-append_right}
use Rattle.std.specs.List.{All, Contains, slice_index_or}
use Rattle.funnel_model.specs.declared.bit_list.Bit.{Bit}
use Rattle.funnel_model.specs.declared.claim.Claim.{Claim}
use Rattle.funnel_model.specs.Legal.{IsInSlice}
use Rattle.slice_rule.specs.declared.view.Fact.{Fact}
use Rattle.slice_rule.specs.declared.view.Fact.TheVariants as fact
use Rattle.slice_rule.specs.Pools.{PoolId}
use Rattle.slice_rule.specs.Seats.{KeepsToColumn, PassState, number_under}
use Rattle.column_writer.specs.Written.{CanWrite, IsBitOf}

-- the own facts are those before and the bits so far
abbrev pub HasSet : ℕ → List Fact → List Bit → List Fact → Type 0
HasSet number before bits after = (f : Fact) → Contains after f ↔ (Contains before f ⊎ IsBitOf number bits f)

here : {A : Type 0} (x : A) (xs : List A) → Contains (x ∷ xs) x
here x xs = (0, omega arith, refl)

only_at : {A : Type 0} (x y : A) (k : ℕ) → k < 1 → slice_index_or (x ∷ []) k y ≡ y → x ≡ y
only_at x y zero small is = is
only_at x y (suc k) small is = absurd (omega arith)

only : {A : Type 0} (x y : A) → Contains (x ∷ []) y → x ≡ y
only x y has = only_at x y has.0 has.1 has.2

pub set_none : (number : ℕ) (before : List Fact) → HasSet number before [] before
set_none number before f = (λ has. inl has, ⊎_elim (λ has. has) (λ none. let in' = none.1.1 in absurd (omega arith)))

pub set_more : (number : ℕ) (before after : List Fact) (bits : List Bit) (b : Bit) → HasSet number before bits after → HasSet number before (bits ++ b ∷ []) (fact.BitSet number b ∷ after)
set_more number before after bits b so_far f = (
  λ has. ⊎_elim
      (λ first. inr (b, Contains-append_right bits (b ∷ []) b (here b []), sym (only (fact.BitSet number b) f first)))
      (λ rest. ⊎_elim (λ old. inl old) (λ set. inr (set.0, Contains-append_left bits (b ∷ []) set.0 set.1, set.2)) ((so_far f).0 rest))
      (Contains-append_cases (fact.BitSet number b ∷ []) after f has),
  ⊎_elim
      (λ old. Contains-append_right (fact.BitSet number b ∷ []) after f ((so_far f).1 (inl old)))
      (λ set. ⊎_elim
      (λ before_it. Contains-append_right (fact.BitSet number b ∷ []) after f ((so_far f).1 (inr (set.0, before_it, set.2))))
      (λ last. Contains-append_left (fact.BitSet number b ∷ []) after f
      (subst (Contains (fact.BitSet number b ∷ [])) (ap (fact.BitSet number) (only b set.0 last) ∙ sym set.2) (here (fact.BitSet number b) [])))
      (Contains-append_cases bits (b ∷ []) set.0 set.1)),
)

-- what was set of some bits was set of others with the same members
pub set_same : (number : ℕ) (before after : List Fact) (bits others : List Bit) → ((b : Bit) → Contains bits b ↔ Contains others b) → HasSet number before bits after →
    HasSet number before others after
set_same number before after bits others same set f = (
  λ has. ⊎_elim (λ old. inl old) (λ new. inr (new.0, (same new.0).0 new.1, new.2)) ((set f).0 has),
  λ has. (set f).1 (⊎_elim (λ old. inl old) (λ new. inr (new.0, (same new.0).1 new.1, new.2)) has),
)

-- what holds of each bit holds of each of a list with no other members
pub all_of_part : (P : Bit → Type 0) (bits others : List Bit) → ((b : Bit) → Contains bits b → Contains others b) → All P others → All P bits
all_of_part P bits others part all k none within =
    All-contains P others (get_or bits k none) all (part (get_or bits k none) (k, within, get_or_default bits k (get_or bits k none) none within))

-- a pass that knew nothing under its claim has set exactly the bits that it wrote
pub has_set : (number : ℕ) (bits : List Bit) (before own : List Fact) → All (λ f. number_under f < number) before → HasSet number before bits own →
    (b : Bit) → Contains bits b ↔ Contains own (fact.BitSet number b)
has_set number bits before own nothing has b = (
  λ in_bits. (has (fact.BitSet number b)).1 (inr (b, in_bits, refl)),
  λ in_own. ⊎_elim
      (λ old. let low = All-contains (λ f. number_under f < number) before (fact.BitSet number b) nothing old in absurd (omega arith))
      (λ is. let same : b ≡ is.0 = let h = is.2 in cc in subst (Contains bits) (sym same) is.1)
      ((has (fact.BitSet number b)).0 in_own),
)

-- who may write some bits may write those of a list with no other members
pub can_write_part : (pool : PoolId) (seat : PassState) (claim : Claim) (bits others : List Bit) → ((b : Bit) → Contains bits b → Contains others b) → CanWrite pool seat claim others →
    CanWrite pool seat claim bits
can_write_part pool seat claim bits others part can = record {
  same = can.same;
  holds = can.holds;
  none_outstanding = can.none_outstanding;
  inside = all_of_part (λ b. IsInSlice pool.limits.slice_words claim.slice b.word) bits others part can.inside;
  of_words = all_of_part (λ b. b.bit < 64) bits others part can.of_words;
  owners = all_of_part (KeepsToColumn seat claim) bits others part can.owners;
}
