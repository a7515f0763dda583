-- How many texts have each word.
use Rattle.std.specs.Prelude.{◌≡◌, ◌≤◌, ℕ, List, map, All, count_by, sum_by, unwrap_or}
use Rattle.std.specs.List.{IsDistinct}
use Rattle.std.specs.Map.{lookup}
use Rattle.std.specs.Str.{bytes_eq}
use Rattle.funnel_model.specs.Words.{has_word}

-- how many of the texts have the word: one that has it twice counts once
unfoldable pub count_of : List (List ℕ) → List ℕ → ℕ
count_of texts word = count_by (λ text. has_word text word) texts

-- the count that a list of words with their counts has for a word: 0 where the word is not in it
abbrev pub count_in : List (List ℕ × ℕ) → List ℕ → ℕ
count_in tally word = unwrap_or (lookup (bytes_eq word) tally) 0

-- The tally has each word of the texts once, with the number of texts that have it, and no other word.
pub record IsTally (texts : List (List ℕ)) (tally : List (List ℕ × ℕ)) : Type 0 where
  pub once : IsDistinct bytes_eq (map (λ entry. entry.0) tally)
  pub some : All (λ entry. 1 ≤ entry.1) tally
  pub counts : (word : List ℕ) → count_in tally word ≡ count_of texts word

-- the counts of these words together: how many words the texts have of them, each once a text
abbrev pub total : List (List ℕ × ℕ) → ℕ
total entries = sum_by (λ entry. entry.1) entries
