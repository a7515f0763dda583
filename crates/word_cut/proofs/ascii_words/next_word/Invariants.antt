-- no word was passed, and one begins here, or there is none
use Rattle.std.proofs.Common.{◌≡◌, ◌-◌, ◌<◌, ◌≤◌, true, length, slice_index}
use Rattle.word_cut.specs.Kinds.{kind_of_byte, is_in_word}
use Rattle.word_cut.specs.Pieces.{words_from}
use Rattle.word_cut.proofs.ascii_words.next_word.Given as goal

abbrev pub invariant-loop-start : goal.invariant-loop-start
invariant-loop-start l = record {
  within : (l.from ≤ l.start) × (l.start ≤ length l.bytes);
  words : words_from l.bytes l.from ≡ words_from l.bytes l.start;
  begins : l.start < length l.bytes → is_in_word (kind_of_byte (slice_index l.bytes l.start)) ≡ true;
}

abbrev pub decreases-loop-start : goal.decreases-loop-start
decreases-loop-start l = length l.bytes - l.start
