-- no boundary was passed, and a byte of another kind comes
use Rattle.std.proofs.Common.{◌≡◌, ◌-◌, ◌<◌, false, length, slice_index}
use Rattle.word_cut.specs.Kinds.{kind_of_byte, is_in_word}
use Rattle.word_cut.proofs.Walks.{IsWordWalk}
use Rattle.word_cut.proofs.ascii_words.word_end.Given as goal

abbrev pub invariant-loop-end : goal.invariant-loop-end
invariant-loop-end l = record {
  walk : IsWordWalk l.bytes l.start l.end;
  next : l.end < length l.bytes → is_in_word (kind_of_byte (slice_index l.bytes l.end)) ≡ false;
}

abbrev pub decreases-loop-end : goal.decreases-loop-end
decreases-loop-end l = length l.bytes - l.end
