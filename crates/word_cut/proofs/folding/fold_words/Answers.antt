-- One more folded word.
use Rattle.std.proofs.Common.{◌≡◌, length, map, sym, ◌∙◌, rules}
use Rattle.funnel_model.specs.Words.{folded}
use Rattle.funnel_model.proofs.WordSetLemmas.{ends_with, words_with}
use Rattle.word_cut.proofs.FoldLemmas.{folds-push}
use Rattle.word_cut.proofs.folding.fold_words.Goals as goal

pub loop-word-preserved : goal.loop-word-preserved
loop-word-preserved c =
    let end : c.len.result ≡ length c.push_folded.new.buffer.items = search (rules, c.len.ensures) in
    record {
      within =
          ends_with c.loop-word.ends.items c.loop-word.buffer.items (folded c.in-Some.word.now) _ _ c.len.result c.loop-word.invariant.within
          c.in_ok-push_folded.ensures end c.in_ok-push.ensures.items;
      so_far =
          words_with c.loop-word.ends.items c.loop-word.buffer.items (folded c.in-Some.word.now) (map folded (map (λ piece. piece.now) c.loop-word.yielded)) _ _ c.len.result
          c.loop-word.invariant.within c.loop-word.invariant.so_far c.in_ok-push_folded.ensures end c.in_ok-push.ensures.items
          ∙ sym (folds-push c.loop-word.yielded c.in-Some.word);
    }
