-- The oldest of the tokens that were looked at.
use Rattle.std.proofs.Common.{◌≡◌, ◌⊎◌, ⊎_elim, inl, inr, ℕ, suc, ◌+◌, ◌<◌, ◌≤◌, List, length, get_or, Option, Some, None, sym, ap, ◌∙◌, arith, MatchOption}
use Rattle.std.proofs.lemmas.Bool.{cases_eq}
use Rattle.std.proofs.lemmas.Bool.Decides.{leb_tells}
use Rattle.std.proofs.lemmas.List.{get_or_past}
use Rattle.token_manager.specs.Guarding.{HasOpened, IsOldest, NoneOpen, older}

-- of the first tokens, none is open, or this is the oldest
abbrev pub NoneBelow : List (Option ℕ) → ℕ → Type 0
NoneBelow tokens n = (pass event : ℕ) → pass < n → HasOpened tokens pass event → ⊥

pub record IsOldestBelow (tokens : List (Option ℕ)) (n event : ℕ) : Type 0 where
  pub pass : ℕ
  pub below : pass < n
  pub opened : HasOpened tokens pass event
  pub oldest : (other later : ℕ) → other < n → HasOpened tokens other later → event ≤ later

abbrev pub IsOldestOf : List (Option ℕ) → ℕ → Option ℕ → Type 0
IsOldestOf tokens n found = MatchOption found (NoneBelow tokens n) (IsOldestBelow tokens n)

some_same : (x y : ℕ) → Some x ≡ Some y → x ≡ y
some_same x y is = cc

-- a pass with an open token is one of the list
within : (tokens : List (Option ℕ)) (pass event : ℕ) → HasOpened tokens pass event → pass < length tokens
within tokens pass event opened = ⊎_elim (λ is. is.1) (λ not. let none : None ≡ Some event = sym (get_or_past tokens pass None (let h = not.1 in omega arith)) ∙ opened in cc) (leb_tells (suc pass) (length tokens))

-- one number is at most the other, or greater
pub le_or_lt : (a b : ℕ) → (a ≤ b) ⊎ (b < a)
le_or_lt a b = ⊎_elim (λ is. inl is.1) (λ not. inr (let h = not.1 in omega arith)) (leb_tells a b)

-- one more is looked at
pub oldest-more : (tokens : List (Option ℕ)) (n : ℕ) (found token : Option ℕ) → get_or tokens n None ≡ token → IsOldestOf tokens n found → IsOldestOf tokens (n + 1) (older found token)
oldest-more tokens n None None here none = λ pass event below opened.
    ⊎_elim (λ (same : pass ≡ n). let is : None ≡ Some event = sym here ∙ ap (λ k. get_or tokens k None) (sym same) ∙ opened in cc) (λ apart. none pass event (omega (arith, below)) opened) (cases_eq pass n)
oldest-more tokens n None (Some second) here none = record {
  pass = n;
  below = omega arith;
  opened = here;
  oldest = λ other later below opened.
      ⊎_elim (λ (same : other ≡ n). let is : second ≡ later = some_same second later (sym here ∙ ap (λ k. get_or tokens k None) (sym same) ∙ opened) in omega arith)
      (λ apart. absurd (none other later (omega (arith, below)) opened)) (cases_eq other n);
}
oldest-more tokens n (Some first) None here is = record {
  pass = is.pass;
  below = let h = is.below in omega arith;
  opened = is.opened;
  oldest = λ other later below opened.
      ⊎_elim (λ (same : other ≡ n). let none : None ≡ Some later = sym here ∙ ap (λ k. get_or tokens k None) (sym same) ∙ opened in cc)
      (λ apart. is.oldest other later (omega (arith, below)) opened) (cases_eq other n);
}
oldest-more tokens n (Some first) (Some second) here is = ⊎_elim
    (λ (less : first ≤ second). record {
      pass = is.pass;
      below = let h = is.below in omega arith;
      opened = is.opened ∙ ap (λ k. Some k) (omega arith);
      oldest = λ other later below opened. ⊎_elim
          (λ (same : other ≡ n). let e : second ≡ later = some_same second later (sym here ∙ ap (λ k. get_or tokens k None) (sym same) ∙ opened) in omega arith)
          (λ apart. let h = is.oldest other later (omega (arith, below)) opened in omega arith) (cases_eq other n);
    })
    (λ (more : second < first). record {
      pass = n;
      below = omega arith;
      opened = here ∙ ap (λ k. Some k) (omega arith);
      oldest = λ other later below opened. ⊎_elim
          (λ (same : other ≡ n). let e : second ≡ later = some_same second later (sym here ∙ ap (λ k. get_or tokens k None) (sym same) ∙ opened) in omega arith)
          (λ apart. let h = is.oldest other later (omega (arith, below)) opened in omega arith) (cases_eq other n);
    })
    (le_or_lt first second)

-- all are looked at
pub oldest-all : (tokens : List (Option ℕ)) (found : Option ℕ) → IsOldestOf tokens (length tokens) found → MatchOption found (NoneOpen tokens) (IsOldest tokens)
oldest-all tokens None none = λ pass event opened. none pass event (within tokens pass event opened) opened
oldest-all tokens (Some event) is = record { pass = is.pass; opened = is.opened; oldest = λ other later opened. is.oldest other later (within tokens other later opened) opened }
