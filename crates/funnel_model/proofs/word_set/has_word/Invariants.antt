-- the words before `low` are less, and those from `high` on are greater
use Rattle.std.proofs.Common.{◌-◌, ◌≡◌, ◌<◌, ◌≤◌, ℕ, length, get_or}
use Rattle.std.specs.Cmp.Lexicographic.{slice_cmp}
use Rattle.std.specs.Ordering.{nat_cmp}
use Rattle.std.specs.declared.cmp.Ordering.TheVariants.{Less, Greater}
use Rattle.funnel_model.specs.WordSets.{pieces}
use Rattle.funnel_model.proofs.word_set.has_word.Given as goal

abbrev pub invariant-loop-low : goal.invariant-loop-low
invariant-loop-low l = record {
  high_in : l.high ≤ length l.ends;
  less : (k : ℕ) → k < l.low → slice_cmp nat_cmp (get_or (pieces 0 l.ends l.buffer) k l.word) l.word ≡ Less;
  greater : (k : ℕ) → l.high ≤ k → k < length l.ends → slice_cmp nat_cmp (get_or (pieces 0 l.ends l.buffer) k l.word) l.word ≡ Greater;
}

abbrev pub decreases-loop-low : goal.decreases-loop-low
decreases-loop-low l = l.high - l.low
