-- the set has the words that came so far
use Rattle.std.proofs.Common.{◌≡◌, length, map, take}
use Rattle.funnel_model.specs.WordSets.{pieces, EndAt}
use Rattle.funnel_model.proofs.word_set.WordSet.from_sorted.Given as goal

abbrev pub invariant-loop-word : goal.invariant-loop-word
invariant-loop-word l = record {
  within : EndAt 0 l.ends.items (length l.buffer.items);
  so_far : pieces 0 l.ends.items l.buffer.items ≡ map (λ w. w.now) (take l.word-index l.words);
}
