-- Words that are taken in one after another.
use Rattle.std.proofs.Common.{◌≡◌, ◌↔◌, ◌⊎◌, inl, inr, ⊎_elim, ℕ, zero, suc, List, [], ◌∷◌, refl, sym, subst, arith}
use Rattle.std.specs.List.{Contains}
use Rattle.funnel_model.proofs.AnswerLemmas.{Contains-cons}

-- each of the words was found or is left, and no other
pub record AreSplit (found left all : List (List ℕ)) : Type 0 where
  pub each : (word : List ℕ) → (Contains found word ⊎ Contains left word) ↔ Contains all word

none : (word : List ℕ) → Contains [] word → ⊥
none word (k, less, is) = absurd (omega arith)

-- at first all are left
pub split_start : (found all : List (List ℕ)) → found ≡ [] → AreSplit found all all
split_start found all empty = record {
  each = λ word. (
    λ has. ⊎_elim (λ before. absurd (none word (subst (λ ws. Contains ws word) empty before))) (λ later. later) has,
    λ has. inr has,
  );
}

head_or_later : (x : List ℕ) (left : List (List ℕ)) (word : List ℕ) → Contains (x ∷ left) word → (word ≡ x) ⊎ Contains left word
head_or_later x left word (zero, less, is) = inl (sym is)
head_or_later x left word (suc k, less, is) = inr (k, omega arith, is)

-- then the next one is taken in
pub split_more : (found found' : List (List ℕ)) (x : List ℕ) (left all : List (List ℕ)) → AreSplit found (x ∷ left) all →
    ((word : List ℕ) → Contains found' word ↔ (Contains found word ⊎ (word ≡ x))) → AreSplit found' left all
split_more found found' x left all split taken = record {
  each = λ word. (
    λ has.
        (split.each word).0
        (⊎_elim
        (λ here. ⊎_elim (λ before. inl before) (λ same. inr (subst (λ w. Contains (x ∷ left) w) (sym same) (zero, omega arith, refl))) ((taken word).0 here))
        (λ later. inr (Contains-cons x left word later))
        has),
    λ has.
        ⊎_elim
        (λ before. inl ((taken word).1 (inl before)))
        (λ there. ⊎_elim (λ same. inl ((taken word).1 (inr same))) (λ later. inr later) (head_or_later x left word there))
        ((split.each word).1 has),
  );
}

-- at last none is left
pub split_end : (found all : List (List ℕ)) → AreSplit found [] all → (word : List ℕ) → Contains found word ↔ Contains all word
split_end found all split word = (
  λ has. (split.each word).0 (inl has),
  λ has. ⊎_elim (λ here. here) (λ later. absurd (none word later)) ((split.each word).1 has),
)
