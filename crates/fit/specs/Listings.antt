-- Which words are listed.
use Rattle.std.specs.Prelude.{ℕ, ◌≤◌, ◌*◌, ◌&&◌, Bool, nat_lt, List, filter}
use Rattle.std.specs.Cmp.Lexicographic.{slice_cmp}
use Rattle.std.specs.List.Sorted.{IsPermutation, IsStrictlySortedBy}
use Rattle.std.specs.Ordering.{nat_cmp, ordering_then}
use Rattle.std.specs.Str.{is_utf8}
use Rattle.std.specs.declared.cmp.Ordering.{Ordering}
use Rattle.funnel_model.specs.Treatment.{class_of_count}
use Rattle.funnel_stats.specs.Faults.{is_word}

-- A word with this count may be listed: it is one folded word, in UTF-8, and its class is below that of words that aren't listed.
unfoldable pub may_be_listed : ℕ → List ℕ × ℕ → Bool
may_be_listed documents entry = nat_lt (class_of_count entry.1 documents) 15 && is_utf8 entry.0 && is_word entry.0

-- by falling count, and where counts are equal by rising word
abbrev pub by_count : List ℕ × ℕ → List ℕ × ℕ → Ordering
by_count first second = ordering_then (nat_cmp second.1 first.1) (slice_cmp nat_cmp first.0 second.0)

-- the words of the tally that may be listed, in the order in which they are taken
pub record IsRanking (documents : ℕ) (tally ranking : List (List ℕ × ℕ)) : Type 0 where
  pub words : IsPermutation (filter (may_be_listed documents) tally) ranking
  pub order : IsStrictlySortedBy by_count ranking

-- the least whole number from 1 on that is at least the mean of so many other words over the documents
pub record IsTail (others documents tail : ℕ) : Type 0 where
  pub one : 1 ≤ tail
  pub enough : others ≤ tail * documents
  pub least : (other : ℕ) → 1 ≤ other → others ≤ other * documents → tail ≤ other
