-- Half of the words that are left to look at are less or greater.
use Rattle.std.proofs.Common.{◌<◌, ◌+◌, ◌-◌, ◌/◌, ℕ, List, inl, inr, length, arith, sym, ap, ◌∙◌, subst}
use Rattle.std.proofs.lemmas.Bool.{cases_lt}
use Rattle.std.specs.Cmp.Lexicographic.{slice_cmp}
use Rattle.std.specs.Ordering.{is_eq, nat_cmp}
use Rattle.funnel_model.specs.WordSets.{pieces}
use Rattle.funnel_model.proofs.WordSetLemmas.{length-pieces, less_up_to, greater_from, word_found, word_not_found}
use Rattle.funnel_model.proofs.word_set.has_word.Goals as goal

-- an index of an end is one of a word
inside : (start : ℕ) (ends buffer : List ℕ) (k : ℕ) → k < length ends → k < length (pieces start ends buffer)
inside start ends buffer k less = subst (λ (n : ℕ). k < n) (sym (length-pieces start ends buffer)) less

-- and an index of a word is one of an end
within : (start : ℕ) (ends buffer : List ℕ) (k : ℕ) → k < length (pieces start ends buffer) → k < length ends
within start ends buffer k less = subst (λ (n : ℕ). k < n) (length-pieces start ends buffer) less

pub loop-low-preserved-in-Less : goal.loop-low-preserved-in-Less
loop-low-preserved-in-Less c =
    let less : c.loop-low.low + (c.loop-low.high - c.loop-low.low) / 2 < length c.args.ends.now = omega (arith, c.loop-low.invariant.high_in, c.loop-low-test.true) in
    record {
      high_in = c.loop-low.invariant.high_in;
      less = λ k up.
          less_up_to (pieces 0 c.args.ends.now c.args.buffer.now) c.args.word.now c.word_at.result.now _ k c.requires.rising (inside 0 _ c.args.buffer.now _ less)
          (ap (λ w. slice_cmp nat_cmp w c.args.word.now) (sym c.word_at.ensures) ∙ sym c.cmp.ensures ∙ c.in-Less.is) up;
      greater = c.loop-low.invariant.greater;
    }

pub loop-low-preserved : goal.loop-low-preserved
loop-low-preserved c =
    let less : c.loop-low.low + (c.loop-low.high - c.loop-low.low) / 2 < length c.args.ends.now = omega (arith, c.loop-low.invariant.high_in, c.loop-low-test.true) in
    record {
      high_in = omega (arith, less);
      less = c.loop-low.invariant.less;
      greater = λ k from below.
          greater_from (pieces 0 c.args.ends.now c.args.buffer.now) c.args.word.now c.word_at.result.now _ k c.requires.rising (inside 0 _ c.args.buffer.now _ less) (inside 0 _ c.args.buffer.now k below)
          (ap (λ w. slice_cmp nat_cmp w c.args.word.now) (sym c.word_at.ensures) ∙ sym c.cmp.ensures ∙ c.in-Greater.is) from;
    }

pub returns-in-Equal : goal.returns-in-Equal
returns-in-Equal c =
    let less : c.loop-low.low + (c.loop-low.high - c.loop-low.low) / 2 < length c.args.ends.now = omega (arith, c.loop-low.invariant.high_in, c.loop-low-test.true) in
    sym (word_found (pieces 0 c.args.ends.now c.args.buffer.now) c.args.word.now c.word_at.result.now _ (inside 0 _ c.args.buffer.now _ less)
    (ap (λ w. slice_cmp nat_cmp w c.args.word.now) (sym c.word_at.ensures) ∙ sym c.cmp.ensures ∙ c.in-Equal.is))

pub returns : goal.returns
returns c =
    sym (word_not_found (pieces 0 c.args.ends.now c.args.buffer.now) c.args.word.now (λ k less.
    elim (cases_lt k c.loop-low.low) [
      | inl before ↦ ap is_eq (c.loop-low.invariant.less k before)
      | inr behind ↦ ap is_eq (c.loop-low.invariant.greater k (omega (arith, behind, c.loop-low-test.false)) (within 0 c.args.ends.now c.args.buffer.now k less))
    ]))
