-- One word more is zero.
use Rattle.std.proofs.Common.{◌≡◌, ◌⊎◌, ◌↔◌, ⊎_elim, inl, inr, ℕ, zero, suc, ◌+◌, ◌*◌, ◌<◌, ◌≤◌, List, [], ◌∷◌, refl, sym, ap, ◌∙◌, arith}
use Rattle.std.proofs.lemmas.List.Elements.{Contains-append_right}
use Rattle.std.specs.List.{Contains}
use Rattle.slice_rule.specs.declared.view.Fact.{Fact}
use Rattle.slice_rule.specs.declared.view.Fact.TheVariants as fact
use Rattle.row_layout.proofs.OneList.{first_or_rest}
use Rattle.slice_recycler.specs.Cleared.{IsZeroOf}

-- that a word from this one on and before that one is zero
abbrev pub IsZeroIn : ℕ → ℕ → ℕ → Fact → Type 0
IsZeroIn first end number f = (word : ℕ) × (first ≤ word) × (word < end) × (f ≡ fact.WordZero number word)

-- the own facts are those before and the words so far
abbrev pub HasZeroed : ℕ → ℕ → ℕ → List Fact → List Fact → Type 0
HasZeroed first end number before after = (f : Fact) → Contains after f ↔ (Contains before f ⊎ IsZeroIn first end number f)

last_or_before : (w n : ℕ) → w < n + 1 → (w ≡ n) ⊎ (w < n)
last_or_before zero zero less = inl refl
last_or_before zero (suc n) less = inr (omega arith)
last_or_before (suc w) zero less = absurd (omega arith)
last_or_before (suc w) (suc n) less = ⊎_elim (λ is. inl (ap suc is)) (λ low. inr (omega arith)) (last_or_before w n (omega arith))

pub zeroed_none : (first number : ℕ) (before : List Fact) → HasZeroed first first number before before
zeroed_none first number before f = (λ has. inl has, ⊎_elim (λ has. has) (λ none. let from = none.1 in let to = none.2 in absurd (omega arith)))

pub zeroed_more : (first word number : ℕ) (before after : List Fact) → first ≤ word → HasZeroed first word number before after →
    HasZeroed first (word + 1) number before (fact.WordZero number word ∷ after)
zeroed_more first word number before after from so_far f = (
  λ has. ⊎_elim
      (λ now. inr (word, from, omega arith, sym now))
      (λ rest. ⊎_elim (λ old. inl old) (λ zero. let to = zero.2 in inr (zero.0, zero.1, omega arith, zero.3)) ((so_far f).0 rest))
      (first_or_rest (fact.WordZero number word) after f has),
  ⊎_elim
      (λ old. Contains-append_right (fact.WordZero number word ∷ []) after f ((so_far f).1 (inl old)))
      (λ zero. ⊎_elim
      (λ now. (0, omega arith, ap (fact.WordZero number) (sym now) ∙ sym zero.3))
      (λ low. Contains-append_right (fact.WordZero number word ∷ []) after f ((so_far f).1 (inr (zero.0, zero.1, low, zero.3))))
      (last_or_before zero.0 word zero.2)),
)

-- the words of a slice are those from its first one on
pub zeroed_all : (slice_words slice first end number : ℕ) (before after : List Fact) → first ≡ slice * slice_words → end ≡ first + slice_words →
    HasZeroed first end number before after → (f : Fact) → Contains after f ↔ (Contains before f ⊎ IsZeroOf slice_words slice number f)
zeroed_all slice_words slice first end number before after begins ends all f =
    let next : (slice + 1) * slice_words ≡ end = omega (arith, begins, ends) in (
      λ has. ⊎_elim
          (λ old. inl old)
          (λ zero. let to = zero.2 in let from = zero.1 in inr (zero.0, record { from = omega (arith, from, begins); to = omega (arith, to, next) }, zero.3))
          ((all f).0 has),
      ⊎_elim
          (λ old. (all f).1 (inl old))
          (λ zero. let from = zero.1.from in let to = zero.1.to in (all f).1 (inr (zero.0, omega (arith, from, begins), omega (arith, to, next), zero.2))),
    )
