-- One more word of the set.
use Rattle.std.proofs.Common.{◌≡◌, add-one, ◌+◌, ◌++◌, ◌∷◌, [], length, map, take, ap, sym, ◌∙◌, rules}
use Rattle.std.proofs.Math.Seq.{take-suc}
use Rattle.std.proofs.lemmas.List.{map-append}
use Rattle.funnel_model.proofs.WordSetLemmas.{ends_with, words_with}
use Rattle.word_cut.specs.declared.keyed_word.KeyedWord.{KeyedWord}
use Rattle.word_cut.proofs.found_words.set_of.Goals as goal

pub loop-word-preserved : goal.loop-word-preserved
loop-word-preserved c =
    let word : KeyedWord = c.word-item.result in
    let end : c.in-Ok.end ≡ length c.extend_from_slice.new.self.items = search (rules, c.in-Ok.ensures.1, c.len.ensures) in
    let next : take (c.loop-word.word-index + 1) c.args.words.now ≡ take c.loop-word.word-index c.args.words.now ++ word ∷ [] =
    rw add-one (take-suc c.args.words.now c.loop-word.word-index word c.loop-word-test.true)
    ∙ ap (λ (w : KeyedWord). take c.loop-word.word-index c.args.words.now ++ w ∷ []) (sym c.word-item.is) in
    record {
      within =
          ends_with c.loop-word.ends.items c.loop-word.buffer.items word.bytes.now _ _ c.in-Ok.end c.loop-word.invariant.within
          c.in_ok-extend_from_slice.ensures.items end c.in_ok-push.ensures.items;
      so_far =
          words_with c.loop-word.ends.items c.loop-word.buffer.items word.bytes.now (map (λ (w : KeyedWord). w.bytes.now) (take c.loop-word.word-index c.args.words.now)) _ _ c.in-Ok.end
          c.loop-word.invariant.within c.loop-word.invariant.so_far c.in_ok-extend_from_slice.ensures.items end c.in_ok-push.ensures.items
          ∙ sym (ap (map (λ (w : KeyedWord). w.bytes.now)) next ∙ map-append (λ (w : KeyedWord). w.bytes.now) (take c.loop-word.word-index c.args.words.now) (word ∷ []));
    }
