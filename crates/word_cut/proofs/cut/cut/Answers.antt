-- One word more.
use Rattle.std.proofs.Common.{ℕ, List, slice_range, sym, subst, arith}
use Rattle.unicode_segmentation.specs.Word.{words as unicode_words}
use Rattle.word_cut.specs.Pieces.{words_from}
use Rattle.word_cut.proofs.Taking.{AreSplit, split_start, split_more, split_end}
use Rattle.word_cut.proofs.Walks.{words_from_start}
use Rattle.word_cut.proofs.cut.cut.Goals as goal

pub loop-start-init : goal.loop-start-init
loop-start-init c =
    let s = c.args.text.now in
    record {
      within = omega arith;
      apart = λ last same. absurd (omega arith);
      words =
          subst (λ (left : List (List ℕ)). AreSplit c.in_ok-found.found left (unicode_words s)) (sym (words_from_start s c.requires))
          (split_start c.in_ok-found.found (unicode_words s) c.in_ok-found.ensures);
    }

pub loop-start-preserved : goal.loop-start-preserved
loop-start-preserved c =
    let s = c.args.text.now in
    let next = c.in-Some.ensures in
    record {
      within = next.within.2;
      apart = next.apart;
      words =
          split_more c.loop-start.found c.take_in.new.self (slice_range s c.in-Some.start c.in-Some.end) (words_from s c.in-Some.end) (unicode_words s)
          (subst (λ (left : List (List ℕ)). AreSplit c.loop-start.found left (unicode_words s)) next.word c.loop-start.invariant.words) c.in_ok-take_in.ensures;
    }

pub returns : goal.returns
returns c =
    let s = c.args.text.now in
    split_end c.loop-start.found (unicode_words s)
    (subst (λ (left : List (List ℕ)). AreSplit c.loop-start.found left (unicode_words s)) c.in_default.ensures.word c.loop-start.invariant.words)
