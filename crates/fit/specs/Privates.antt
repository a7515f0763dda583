-- Up to which class listed words get a row of their own.
use Rattle.std.specs.Prelude.{ℕ, ◌≤◌, ◌&&◌, Bool, nat_le, List, count_by}
use Rattle.funnel_model.specs.Treatment.{class_of_count}

-- a word that so many of the documents have is of a class from 3 to p
abbrev pub is_up_to : ℕ → ℕ → ℕ → Bool
is_up_to documents p count = nat_le 3 (class_of_count count documents) && nat_le (class_of_count count documents) p

-- how many of these words are
abbrev pub count_up_to : ℕ → ℕ → List (List ℕ × ℕ) → ℕ
count_up_to documents p words = count_by (λ entry. is_up_to documents p entry.1) words

-- the greatest class p from 2 to 6 for which at most 512 of the listed words are of a class from 3 to p
pub record IsPrivateClass (documents : ℕ) (words : List (List ℕ × ℕ)) (p : ℕ) : Type 0 where
  pub low : 2 ≤ p
  pub high : p ≤ 6
  pub few : count_up_to documents p words ≤ 512
  pub greatest : (other : ℕ) → other ≤ 6 → count_up_to documents other words ≤ 512 → other ≤ p
