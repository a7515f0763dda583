-- the words so far were found, and those from here on are left
use Rattle.std.proofs.Common.{◌≡◌, ℕ, ◌+◌, ◌-◌, ◌≤◌, false, length}
use Rattle.unicode_segmentation.specs.Word.{words as unicode_words}
use Rattle.word_cut.specs.Kinds.{goes_on}
use Rattle.word_cut.specs.Pieces.{words_from}
use Rattle.word_cut.proofs.Taking.{AreSplit}
use Rattle.word_cut.proofs.cut.cut.Given as goal

abbrev pub invariant-loop-start : goal.invariant-loop-start
invariant-loop-start l = record {
  within : l.at ≤ length l.text;
  apart : (last : ℕ) → last + 1 ≡ l.at → goes_on l.text last ≡ false;
  words : AreSplit l.found (words_from l.text l.at) (unicode_words l.text);
}

abbrev pub decreases-loop-start : goal.decreases-loop-start
decreases-loop-start l = length l.text - l.at
