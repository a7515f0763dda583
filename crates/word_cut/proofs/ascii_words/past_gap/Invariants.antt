-- each byte so far is of no word
use Rattle.std.proofs.Common.{◌≡◌, ℕ, ◌-◌, ◌<◌, ◌≤◌, false, length, slice_index}
use Rattle.word_cut.specs.Kinds.{kind_of_byte, is_in_word}
use Rattle.word_cut.proofs.ascii_words.past_gap.Given as goal

abbrev pub invariant-loop-at : goal.invariant-loop-at
invariant-loop-at l = record {
  within : (l.from ≤ l.at) × (l.at ≤ length l.bytes);
  passed : (k : ℕ) → l.from ≤ k → k < l.at → is_in_word (kind_of_byte (slice_index l.bytes k)) ≡ false;
}

abbrev pub decreases-loop-at : goal.decreases-loop-at
decreases-loop-at l = length l.bytes - l.at
