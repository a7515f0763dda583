use Rattle.std.proofs.Common.{get_or, bit_and, refl, ◌∙◌, arith}
use Rattle.std.proofs.lemmas.List.{length-set}
use Rattle.funnel_model.proofs.SliceSetLemmas.{ands-set, both-contains}
use Rattle.funnel_model.proofs.slice_set.SliceSet.both.Goals as goal

pub loop-index-init : goal.loop-index-init
loop-index-init c = record { long = refl; ands = λ k below. absurd (omega (arith, below)) }

pub loop-index-preserved : goal.loop-index-preserved
loop-index-preserved c =
    let i = c.self.inside in
    let j = c.other.inside in
    let words = c.loop-index.words in
    let index = c.loop-index.index in
    let word = bit_and (get_or i.words index 0) (get_or j.words index 0) in
    let long = c.loop-index.invariant.long in
    let in' = c.loop-index-test.true in
    record {
      long = length-set words index word ∙ long;
      ands = ands-set i.words j.words words index (omega (arith, long, in')) c.loop-index.invariant.ands;
    }

pub returns : goal.returns
returns c =
    both-contains c.self.inside.words c.other.inside.words c.loop-index.words c.args.self.now c.args.other.now c.self.view_is c.other.view_is
    (λ k below. let done = c.loop-index-test.false in c.loop-index.invariant.ands k (omega (arith, done, below)))
