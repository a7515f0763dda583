-- What the steps of a fit give, for the clauses of functions that are not public.
use Rattle.std.specs.Prelude.{◌≡◌, ◌+◌, ◌*◌, ◌≤◌, ℕ, List, All, map, length, count_by, Vec, String, string_bytes}
use Rattle.std.specs.Global.{Global}
use Rattle.std.specs.List.{IsDistinct}
use Rattle.std.specs.Str.{bytes_eq}
use Rattle.std.specs.declared.cmp.Reverse.{Reverse}
use Rattle.funnel_io.specs.declared.line_reader.TheConstants.{MAX_LINE_LEN}
use Rattle.fit.specs.Tallies.{IsTally, count_in, total}

-- the words of a map with their counts, by their bytes
abbrev pub entries_of : List (Vec ℕ Global × ℕ) → List (List ℕ × ℕ)
entries_of counts = map (λ entry. (entry.0.items, entry.1)) counts

-- a word of a ranking with its count
abbrev pub ranked : Reverse ℕ × String Global → List ℕ × ℕ
ranked entry = (string_bytes entry.1, entry.0.0)

-- one more text has each of these words, which stand in it once
pub record CountsMore (before after : List (List ℕ × ℕ)) (words : List (List ℕ)) : Type 0 where
  pub once : IsDistinct bytes_eq (map (λ entry. entry.0) before) → IsDistinct bytes_eq (map (λ entry. entry.0) after)
  pub some : All (λ entry. 1 ≤ entry.1) before → All (λ entry. 1 ≤ entry.1) after
  pub counts : (word : List ℕ) → count_in after word ≡ count_in before word + count_by (bytes_eq word) words
  pub together : total after ≡ total before + length words

-- so many texts have so many words, each once a text: as many as their counts together, and no more than the texts have bytes
pub record AddsUp (tally : List (List ℕ × ℕ)) (documents words : ℕ) : Type 0 where
  pub together : words ≡ total tally
  pub few : words ≤ documents * MAX_LINE_LEN

-- the texts were counted
pub record HasCounted (texts : List (List ℕ)) (tally : List (List ℕ × ℕ)) (documents words : ℕ) : Type 0 where
  pub tallied : IsTally texts tally
  pub many : documents ≡ length texts
  pub sums : AddsUp tally documents words

-- these are the tally, the number and the words of some texts
pub record IsCounted (tally : List (List ℕ × ℕ)) (documents words : ℕ) : Type 0 where
  pub texts : List (List ℕ)
  pub counted : HasCounted texts tally documents words
