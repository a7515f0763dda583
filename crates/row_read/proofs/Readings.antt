-- What one more read tells of what was seen.
use Rattle.std.proofs.Common.{◌≡◌, ℕ, ◌⊎◌, ⊎_elim, inl, inr, [], ◌∷◌, IsBitSet, subst, arith}
use Rattle.std.proofs.lemmas.List.Elements.{Contains-append_cases, Contains-push_cases}
use Rattle.std.specs.List.{Contains}
use Rattle.funnel_model.specs.declared.bit_list.Bit.{Bit}
use Rattle.slice_rule.specs.declared.view.Fact.TheVariants as fact
use Rattle.slice_rule.specs.Seats.{PassState, WasReadUnder, after_own}

contained_alone : {A : Type 0} (x y : A) → Contains (x ∷ []) y → x ≡ y
contained_alone x y has =
    ⊎_elim (λ (none : Contains [] y). let small = none.1 in absurd (omega arith)) (λ (same : x ≡ y). same) (Contains-push_cases [] x y has)

-- a bit that is seen after a read was seen before, or is one of the word that was read
pub seen_by_read : (before : PassState) (number word value : ℕ) (bit : Bit) → WasReadUnder (after_own before (fact.WordRead number word value)) number bit
    → WasReadUnder before number bit ⊎ ((bit.word ≡ word) × IsBitSet value bit.bit)
seen_by_read before number word value bit seen =
    ⊎_elim
    (λ (now : Contains (fact.WordRead number word value ∷ []) (fact.WordRead number bit.word seen.value)). inr (this now))
    (λ (earlier : Contains before.own (fact.WordRead number bit.word seen.value)). inl (record { value = seen.value; read = earlier; set = seen.set; owned = seen.owned }))
    (Contains-append_cases (fact.WordRead number word value ∷ []) before.own (fact.WordRead number bit.word seen.value) seen.read)
  where
    this : Contains (fact.WordRead number word value ∷ []) (fact.WordRead number bit.word seen.value) → (bit.word ≡ word) × IsBitSet value bit.bit
    this now =
        let same = contained_alone (fact.WordRead number word value) (fact.WordRead number bit.word seen.value) now in
        (cc (same), subst (λ v. IsBitSet v bit.bit) (cc (same)) seen.set)
