-- A walk over rising words, up to one of them.
use Rattle.std.proofs.Common.{◌≡◌, ◌⊎◌, ⊎_elim, ℕ, zero, suc, List, [], ◌∷◌, Contains, refl, sym, ap, ◌∙◌, subst, arith, inl, inr}
use Rattle.std.proofs.lemmas.Cmp.{nat_list_cmp_total, tied_itself}
use Rattle.std.proofs.lemmas.List.Elements.{All-contains, All-from_recursion}
use Rattle.std.proofs.lemmas.Map.Text.{is_eq-slice_cmp}
use Rattle.std.specs.Cmp.Lexicographic.{bytes_decides, slice_cmp}
use Rattle.std.specs.List.Sorted.{IsStrictlySortedBy}
use Rattle.std.specs.Ordering.{is_eq, nat_cmp}
use Rattle.std.specs.declared.cmp.Ordering.TheVariants.{Less, Equal, Greater}
use Rattle.funnel_model.proofs.AnswerLemmas.{Contains-cons}
use Rattle.funnel_model.specs.Words.{IsRising}
use Rattle.document_store.specs.Documents.{HasEvery}

-- what is in a list is its first element or in the rest
first_or_rest : {A : Type 0} (x : A) (xs : List A) (y : A) → Contains (x ∷ xs) y → (x ≡ y) ⊎ Contains xs y
first_or_rest x xs y (zero, in', is) = inl is
first_or_rest x xs y (suc k, in', is) = inr (k, omega arith, is)

-- the words after the first are above it
above_first : (word : List ℕ) (words : List (List ℕ)) (other : List ℕ) → IsRising (word ∷ words) → Contains words other → slice_cmp nat_cmp word other ≡ Less
unfolding IsStrictlySortedBy
above_first word words other rising has =
    All-contains (λ y. slice_cmp nat_cmp word y ≡ Less) words other (All-from_recursion (λ y. slice_cmp nat_cmp word y ≡ Less) words rising.0) has

-- and rise
pub rest_rises : (word : List ℕ) (words : List (List ℕ)) → IsRising (word ∷ words) → IsRising words
unfolding IsStrictlySortedBy
rest_rises word words rising = rising.1

-- no word is below itself
not_below_itself : (word : List ℕ) → slice_cmp nat_cmp word word ≡ Less → ⊥
not_below_itself word below = let tied = tied_itself nat_list_cmp_total word in cc

-- a word that compares as equal is the other
same_word : (one other : List ℕ) → slice_cmp nat_cmp one other ≡ Equal → one ≡ other
same_word one other equal = (bytes_decides one other).0 (sym (is_eq-slice_cmp one other) ∙ ap is_eq equal)

-- a word that is above another isn't below it
not_both : (one other : List ℕ) → slice_cmp nat_cmp one other ≡ Greater → slice_cmp nat_cmp one other ≡ Less → ⊥
not_both one other above below = cc

-- Of the words, those that aren't left are below this one.
pub record IsLeft (word : List ℕ) (words left : List (List ℕ)) : Type 0 where
  pub below_or_left : (other : List ℕ) → Contains words other → (slice_cmp nat_cmp other word ≡ Less) ⊎ Contains left other
  pub same : (other : List ℕ) → Contains left other → Contains words other
  pub rising : IsRising left

pub all_left : (word : List ℕ) (words : List (List ℕ)) → IsRising words → IsLeft word words words
all_left word words rising = record { below_or_left = λ other has. inr has; same = λ other has. has; rising = rising }

module _ (word : List ℕ) (words : List (List ℕ)) where
  -- one more is passed
  pub one_passed : (next : List ℕ) (left : List (List ℕ)) → IsLeft word words (next ∷ left) → slice_cmp nat_cmp next word ≡ Less → IsLeft word words left
  one_passed next left is below = record {
    below_or_left = λ other has.
        ⊎_elim inl
        (λ (kept : Contains (next ∷ left) other). ⊎_elim (λ (this : next ≡ other). inl (subst (λ w. slice_cmp nat_cmp w word ≡ Less) this below)) inr (first_or_rest next left other kept))
        (is.below_or_left other has);
    same = λ other has. is.same other (Contains-cons next left other has);
    rising = rest_rises next left is.rising;
  }

  -- what is left after the first
  pub same_after : (next : List ℕ) (left : List (List ℕ)) → IsLeft word words (next ∷ left) → (other : List ℕ) → Contains left other → Contains words other
  same_after next left is other has = is.same other (Contains-cons next left other has)

  -- the word is come to
  pub come_to : (next : List ℕ) (left : List (List ℕ)) → IsLeft word words (next ∷ left) → slice_cmp nat_cmp next word ≡ Equal → Contains words word
  come_to next left is equal = is.same word (zero, omega arith, same_word next word equal)

  -- the words above it are left then
  pub above_left : (next : List ℕ) (left : List (List ℕ)) → IsLeft word words (next ∷ left) → slice_cmp nat_cmp next word ≡ Equal →
      (other : List ℕ) → slice_cmp nat_cmp word other ≡ Less → Contains words other → Contains left other
  above_left next left is equal other above has =
      ⊎_elim (λ below. absurd (not_below_itself word (nat_list_cmp_total.trans word other word above below)))
      (λ (kept : Contains (next ∷ left) other).
      ⊎_elim (λ (this : next ≡ other). absurd (not_below_itself word (subst (λ w. slice_cmp nat_cmp word w ≡ Less) (sym this ∙ same_word next word equal) above))) (λ later. later)
      (first_or_rest next left other kept))
      (is.below_or_left other has)

  -- where the first of those that are left is above it, it isn't among the words
  pub not_there : (next : List ℕ) (left : List (List ℕ)) → IsLeft word words (next ∷ left) → slice_cmp nat_cmp next word ≡ Greater → Contains words word → ⊥
  not_there next left is above has =
      ⊎_elim (not_below_itself word)
      (λ (kept : Contains (next ∷ left) word).
      ⊎_elim (λ (this : next ≡ word). not_both next word above (absurd (same_is_not_above next word this above)))
      (λ (later : Contains left word). not_both next word above (above_first next left word is.rising later)) (first_or_rest next left word kept))
      (is.below_or_left word has)
    where
      same_is_not_above : (one other : List ℕ) → one ≡ other → slice_cmp nat_cmp one other ≡ Greater → ⊥
      same_is_not_above one other same above =
          let tied = tied_itself nat_list_cmp_total one in
          let at : slice_cmp nat_cmp one one ≡ Greater = ap (slice_cmp nat_cmp one) same ∙ above in
          cc

  -- nor where none is left
  pub none_there : IsLeft word words [] → Contains words word → ⊥
  none_there is has = ⊎_elim (not_below_itself word) (λ (none : Contains [] word). absurd (omega (arith, none.1))) (is.below_or_left word has)

-- Of the words that are looked for, those before the ones that are left are in the set, and each of those that are left and in the set is among
-- the words of the set that are left.
pub record IsAtWords (set words left remaining : List (List ℕ)) : Type 0 where
  pub had : (word : List ℕ) → Contains words word → Contains set word ⊎ Contains remaining word
  pub asked : (word : List ℕ) → Contains remaining word → Contains words word
  pub kept : (word : List ℕ) → Contains remaining word → Contains set word → Contains left word
  pub same : (word : List ℕ) → Contains left word → Contains set word
  pub rising : IsRising left
  pub remaining_rises : IsRising remaining

module _ (set words : List (List ℕ)) where
  pub at_first : IsRising set → IsRising words → IsAtWords set words set words
  at_first rising words_rise = record {
    had = λ word has. inr has;
    asked = λ word has. has;
    kept = λ word asked has. has;
    same = λ word has. has;
    rising = rising;
    remaining_rises = words_rise;
  }

  -- one more is in the set
  pub one_had : (word : List ℕ) (left next remaining : List (List ℕ)) → IsAtWords set words left (word ∷ remaining) → Contains left word →
      ((other : List ℕ) → slice_cmp nat_cmp word other ≡ Less → Contains left other → Contains next other) → ((other : List ℕ) → Contains next other → Contains left other) → IsRising next →
      IsAtWords set words next remaining
  one_had word left next remaining is has above same rising = record {
    had = λ other asked.
        ⊎_elim inl (λ (rest : Contains (word ∷ remaining) other). ⊎_elim (λ (this : word ≡ other). inl (subst (Contains set) this (is.same word has))) inr (first_or_rest word remaining other rest))
        (is.had other asked);
    asked = λ other rest. is.asked other (Contains-cons word remaining other rest);
    kept = λ other rest in_set.
        above other (above_first word remaining other is.remaining_rises rest) (is.kept other (Contains-cons word remaining other rest) in_set);
    same = λ other kept. is.same other (same other kept);
    rising = rising;
    remaining_rises = rest_rises word remaining is.remaining_rises;
  }

  -- a word that isn't among those that are left isn't in the set
  pub one_lacks : (word : List ℕ) (left remaining : List (List ℕ)) → IsAtWords set words left (word ∷ remaining) → (Contains left word → ⊥) → HasEvery set words → ⊥
  one_lacks word left remaining is lacks every = lacks (is.kept word (zero, omega arith, refl) (every word (is.asked word (zero, omega arith, refl))))

  -- where none is left, all are in the set
  pub all_had : (left : List (List ℕ)) → IsAtWords set words left [] → HasEvery set words
  all_had left is word asked = ⊎_elim (λ has. has) (λ (none : Contains [] word). absurd (omega (arith, none.1))) (is.had word asked)
