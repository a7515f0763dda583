-- The columns of a slice that the required words of a search leave, from a word on.
use Rattle.std.specs.Prelude.{◌≡◌, ◌↔◌, ℕ, ◌*◌, ◌/◌, ◌<◌, ◌≤◌, Bool, true, List, All, Contains, map}
use Rattle.std.specs.List.{AllPairs}
use Rattle.rank_matcher.specs.declared.left.Left.{Left}
use Rattle.rank_matcher.specs.declared.left.Left.TheVariants as left

-- the column of a candidate is one of the word's 64
abbrev pub IsOfWord : ℕ → ℕ × ℕ → Type 0
IsOfWord word candidate = candidate.1 / 64 ≡ word

-- candidates with these columns rise, from the word on, and are those that are left there
pub record AreRisingFrom (is_left : ℕ → Bool) (word : ℕ) (columns : List ℕ) : Type 0 where
  pub rising : AllPairs (λ one other. one < other) columns
  pub from : All (λ column. 64 * word ≤ column) columns
  pub exactly : (column : ℕ) → 64 * word ≤ column → Contains columns column ↔ (is_left column ≡ true)

-- the test of columns says which are left from the word on
abbrev pub AreLeftFrom : (ℕ → Bool) → ℕ → Left → Type 0
AreLeftFrom is_left word left.All = (column : ℕ) → is_left column ≡ true
AreLeftFrom is_left word (left.Columns candidates) = AreRisingFrom is_left word (map (λ c. c.1) candidates.now)
