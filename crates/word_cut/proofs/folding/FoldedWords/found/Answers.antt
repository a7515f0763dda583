-- The next word lies between the end before, or the start, and its own end.
use Rattle.std.proofs.Common.{ℕ, List, length, get_or, ap₂, sym, ◌∙◌, subst}
use Rattle.std.proofs.lemmas.List.{drop_all}
use Rattle.std.specs.List.{slice_range}
use Rattle.funnel_model.specs.WordSets.{pieces, EndAt}
use Rattle.funnel_model.proofs.WordSetLemmas.{start_within}
use Rattle.word_cut.proofs.FoldLemmas.{pieces-next, EndAt-next}
use Rattle.word_cut.proofs.Taking.{AreSplit, split_start, split_more, split_end}
use Rattle.word_cut.proofs.folding.FoldedWords.found.Goals as goal

pub take_in-requires-clause-within : goal.take_in-requires-clause-within
take_in-requires-clause-within c = start_within _ _ _ (EndAt-next _ _ _ _ c.loop-end-test.true c.loop-end.invariant.within).1

pub loop-end-init : goal.loop-end-init
loop-end-init c = record {
  words =
      subst (λ (ws : List (List ℕ)). AreSplit c.in_ok-found.found (pieces 0 c.as_slice-end-items.result.now c.as_slice-buffer.result.now) ws)
      (ap₂ (λ (ends buffer : List ℕ). pieces 0 ends buffer) c.as_slice-end-items.ensures.value c.as_slice-buffer.ensures.value ∙ c.self.view_is)
      (split_start c.in_ok-found.found (pieces 0 c.as_slice-end-items.result.now c.as_slice-buffer.result.now) c.in_ok-found.ensures);
  within =
      subst (λ (ends : List ℕ). EndAt 0 ends (length c.as_slice-buffer.result.now)) (sym c.as_slice-end-items.ensures.value)
      (subst (λ (buffer : List ℕ). EndAt 0 c.self.inside.ends.items (length buffer)) (sym c.as_slice-buffer.ensures.value) c.self.invariant);
}

pub loop-end-preserved : goal.loop-end-preserved
loop-end-preserved c =
    let next = EndAt-next c.loop-end.start c.loop-end.end-index (length c.as_slice-buffer.result.now) c.as_slice-end-items.result.now c.loop-end-test.true c.loop-end.invariant.within in
    record {
      words =
          split_more c.loop-end.found c.take_in.new.self (slice_range c.as_slice-buffer.result.now c.loop-end.start (get_or c.as_slice-end-items.result.now c.loop-end.end-index 0)) _ c.args.self.now
          (subst (λ (ws : List (List ℕ)). AreSplit c.loop-end.found ws c.args.self.now)
          (pieces-next c.loop-end.start c.loop-end.end-index c.as_slice-end-items.result.now c.as_slice-buffer.result.now c.loop-end-test.true) c.loop-end.invariant.words)
          c.in_ok-take_in.ensures;
      within = next.1;
    }

pub returns : goal.returns
returns c =
    split_end c.loop-end.found c.args.self.now
    (subst (λ (ends : List ℕ). AreSplit c.loop-end.found (pieces c.loop-end.start ends c.as_slice-buffer.result.now) c.args.self.now)
    (drop_all c.loop-end.end-index c.as_slice-end-items.result.now c.loop-end-test.false) c.loop-end.invariant.words)
