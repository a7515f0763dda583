-- the buffer has the folds of the words that came so far
use Rattle.std.proofs.Common.{◌≡◌, length, map}
use Rattle.funnel_model.specs.Words.{folded}
use Rattle.funnel_model.specs.WordSets.{pieces, EndAt}
use Rattle.word_cut.proofs.folding.fold_words.Given as goal

abbrev pub invariant-loop-word : goal.invariant-loop-word
invariant-loop-word l = record {
  within : EndAt 0 l.ends.items (length l.buffer.items);
  so_far : pieces 0 l.ends.items l.buffer.items ≡ map folded (map (λ piece. piece.now) l.yielded);
}
