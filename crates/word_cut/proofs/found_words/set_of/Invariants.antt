-- the set has the words that came so far
use Rattle.std.proofs.Common.{◌≡◌, length, map, take}
use Rattle.funnel_model.specs.WordSets.{pieces, EndAt}
use Rattle.word_cut.specs.declared.keyed_word.KeyedWord.{KeyedWord}
use Rattle.word_cut.proofs.found_words.set_of.Given as goal

abbrev pub invariant-loop-word : goal.invariant-loop-word
invariant-loop-word l = record {
  within : EndAt 0 l.ends.items (length l.buffer.items);
  so_far : pieces 0 l.ends.items l.buffer.items ≡ map (λ (w : KeyedWord). w.bytes.now) (take l.word-index l.words);
}
