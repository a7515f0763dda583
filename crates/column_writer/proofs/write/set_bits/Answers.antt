use Rattle.std.proofs.Common.{◌≡◌, ◌+◌, ◌<◌, take, get_or, List, ◌∷◌, length, sym, ap, ◌∙◌, subst, arith}
use Rattle.std.proofs.lemmas.List.{take_all, take_more}
use Rattle.funnel_model.specs.declared.bit_list.Bit.{Bit}
use Rattle.slice_rule.specs.declared.view.Fact.{Fact}
use Rattle.slice_rule.specs.declared.view.Fact.TheVariants as fact
use Rattle.slice_rule.specs.Numbers.{last_number}
use Rattle.slice_rule.specs.Seats.{KeepsToColumn, PassState, after_own}
use Rattle.column_writer.specs.Written.{SetsBits}
use Rattle.column_writer.proofs.Writing.{HasSet, set_more}
use Rattle.column_writer.proofs.write.set_bits.Goals as goal

pub set_bit-requires-clause-owner : goal.set_bit-requires-clause-owner
set_bit-requires-clause-owner c =
    let none : Bit = record { word = 0; bit = 0 } in
    let b = get_or c.args.bits.now c.loop-b.b-index none in
    subst (λ (p : PassState). KeepsToColumn p c.args.claim.now b) (sym c.loop-b.invariant.same) (c.requires.owners c.loop-b.b-index none c.loop-b-test.true)

pub loop-b-preserved : goal.loop-b-preserved
loop-b-preserved c =
    let old = c.args.seat.now in
    let seat = c.loop-b.seat in
    let after = c.set_bit.new.seat in
    let none : Bit = record { word = 0; bit = 0 } in
    let b : Bit = get_or c.args.bits.now c.loop-b.b-index none in
    let k = last_number old.number old.front in
    let small : c.loop-b.b-index < length c.args.bits.now = c.loop-b-test.true in
    let same = c.loop-b.invariant.same in
    let number : last_number seat.number seat.front ≡ k = ap (λ (p : PassState). last_number p.number p.front) same in
    let did : after ≡ after_own seat (fact.BitSet k b) = c.set_bit.ensures ∙ ap (λ n. after_own seat (fact.BitSet n b)) number in
    let own : after.own ≡ fact.BitSet k b ∷ seat.own = ap (λ (p : PassState). p.own) did in
    let more = set_more k old.own seat.own (take c.loop-b.b-index c.args.bits.now) b c.loop-b.invariant.facts in
    let taken = sym (take_more c.args.bits.now c.loop-b.b-index none small) in
    record {
      same = did ∙ ap (λ (p : PassState). after_own p (fact.BitSet k b)) same ∙ ap (λ (fs : List Fact). record old { own = fs }) (sym own);
      facts = subst (λ (fs : List Fact). HasSet k old.own (take (c.loop-b.b-index + 1) c.args.bits.now) fs) (sym own)
          (subst (λ (bs : List Bit). HasSet k old.own bs (fact.BitSet k b ∷ seat.own)) taken more);
    }

pub returns : goal.returns
returns c =
    let end = c.loop-b-test.false in
    subst (SetsBits c.args.seat.now c.loop-b.seat) (take_all c.loop-b.b-index c.args.bits.now (omega arith)) c.loop-b.invariant
