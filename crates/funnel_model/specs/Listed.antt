use Rattle.std.specs.Prelude.{ℕ, List, map, find, Option, option_map}
use Rattle.std.specs.List.Sorted.{IsStrictlySortedBy}
use Rattle.std.specs.Ordering.{nat_cmp}
use Rattle.std.specs.Cmp.Lexicographic.{slice_cmp}
use Rattle.std.specs.Str.{bytes_eq}
use Rattle.std.specs.String.{string_bytes}
use Rattle.std.specs.declared.string.String.{String}

-- a listed word: its bytes, and its count
abbrev pub listed_pair : {Z : Type 0} → String Z × ℕ → List ℕ × ℕ
listed_pair entry = (string_bytes entry.0, entry.1)

-- the words rise in byte order, so each stands once
abbrev pub IsInByteOrder : List (List ℕ × ℕ) → Type 0
IsInByteOrder entries = IsStrictlySortedBy (slice_cmp nat_cmp) (map (λ entry. entry.0) entries)

-- the count of a word, where it is listed
unfoldable pub listed_count : List (List ℕ × ℕ) → List ℕ → Option ℕ
listed_count entries word = option_map (λ entry. entry.1) (find (λ entry. bytes_eq entry.0 word) entries)
