-- each word is among those so far, or among those of the ends that are left
use Rattle.std.proofs.Common.{length, drop}
use Rattle.funnel_model.specs.WordSets.{pieces, EndAt}
use Rattle.word_cut.proofs.Taking.{AreSplit}
use Rattle.word_cut.proofs.folding.FoldedWords.found.Given as goal

abbrev pub invariant-loop-end : goal.invariant-loop-end
invariant-loop-end l = record {
  words : AreSplit l.found (pieces l.start (drop l.end-index l.end-items) l.buffer) l.fn.self;
  within : EndAt l.start (drop l.end-index l.end-items) (length l.buffer);
}
