-- Choices for each worker.
use Rattle.std.proofs.Common.{ℕ, ◌<◌, ◌≤◌, ◌⊎◌, inl, inr, arith}
use Rattle.std.proofs.lemmas.Bool.{cases_lt}

-- where something holds of some value for each worker, there is a list of such values: a function from the workers to them
module _ {A : Type 0} (P : ℕ → A → Type 0) (n : ℕ) (other : A) (some : (k : ℕ) → k < n → (x : A) × P k x) where
  abbrev by_case : (k : ℕ) → (k < n) ⊎ (n ≤ k) → A
  by_case k (inl small) = (some k small).0
  by_case k (inr large) = other

  holds : (k : ℕ) → k < n → (c : (k < n) ⊎ (n ≤ k)) → P k (by_case k c)
  holds k small (inl also) = (some k also).1
  holds k small (inr large) = absurd (omega (arith, small, large))

  pub chosen : (f : ℕ → A) × ((k : ℕ) → k < n → P k (f k))
  chosen = (λ k. by_case k (cases_lt k n), λ k small. holds k small (cases_lt k n))
