use Rattle.std.proofs.Common.{◌≡◌, ℕ, suc, ◌+◌, ◌*◌, ◌<◌, ◌≤◌, List, ◌∷◌, ap, sym, subst, ◌∙◌, arith}
use Rattle.std.proofs.lemmas.Nat.{mul-le}
use Rattle.funnel_model.proofs.NextEvents.{clears_in_range}
use Rattle.slice_rule.specs.declared.view.Fact.{Fact}
use Rattle.slice_rule.specs.declared.view.Fact.TheVariants as fact
use Rattle.slice_rule.specs.Numbers.{last_number}
use Rattle.slice_rule.specs.Pools.{PoolId}
use Rattle.slice_rule.specs.Seats.{PassState, after_own}
use Rattle.slice_recycler.proofs.ZeroWords.{HasZeroed, zeroed_all, zeroed_more}
use Rattle.slice_recycler.proofs.clearing.clear_slice.Goals as goal

suc_times : (a b : ℕ) → suc a * b ≡ a * b + b
suc_times a b = omega arith

pub first_word-first-requires : goal.first_word-first-requires
first_word-first-requires c =
    let seat = c.args.seat.now in
    let slice = c.args.job.now.slice in
    let room = c.args.room in
    let slices = c.args.pool.now.limits.slices in
    let in' : slice < slices =
    subst (λ (p : PoolId). slice < p.limits.slices) c.requires.same (clears_in_range seat.pool.limits seat.front c.number.ensures.legal seat.number slice c.requires.holds) in
    let more : suc slice * room ≤ slices * room = mul-le (suc slice) room slices room in' (omega arith) in
    let small = c.requires.has_room.small in
    omega (arith, more, small, suc_times slice room)

pub loop-word-preserved : goal.loop-word-preserved
loop-word-preserved c =
    let old = c.args.seat.now in
    let seat = c.loop-word.seat in
    let after = c.clear_word.new.seat in
    let first = c.first_word-first.result in
    let word = c.loop-word.word in
    let k = last_number old.number old.front in
    let same = c.loop-word.invariant.same in
    let from = c.loop-word.invariant.from in
    let more = c.loop-word-test.true in
    let number : last_number seat.number seat.front ≡ k = ap (λ (p : PassState). last_number p.number p.front) same in
    let did : after ≡ after_own seat (fact.WordZero k word) = c.clear_word.ensures ∙ ap (λ n. after_own seat (fact.WordZero n word)) number in
    let own : after.own ≡ fact.WordZero k word ∷ seat.own = ap (λ (p : PassState). p.own) did in
    record {
      same = did ∙ ap (λ (p : PassState). after_own p (fact.WordZero k word)) same ∙ ap (λ (fs : List Fact). record old { own = fs }) (sym own);
      from = omega (arith, from);
      to = omega (arith, more);
      zeros = subst (λ (fs : List Fact). HasZeroed first (word + 1) k old.own fs) (sym own) (zeroed_more first word k old.own seat.own from c.loop-word.invariant.zeros);
    }

pub returns : goal.returns
returns c =
    let old = c.args.seat.now in
    let words = c.requires.has_room.words in
    let first = c.first_word-first.result in
    let begins = c.first_word-first.ensures.first ∙ ap (λ n. c.args.job.now.slice * n) words in
    let over = c.loop-word-test.false in
    let to = c.loop-word.invariant.to in
    let ends : c.loop-word.word ≡ first + c.args.pool.now.limits.slice_words = omega (arith, words, over, to) in
    record {
      same = c.loop-word.invariant.same;
      zeros = zeroed_all c.args.pool.now.limits.slice_words c.args.job.now.slice first c.loop-word.word (last_number old.number old.front) old.own c.loop-word.seat.own begins ends c.loop-word.invariant.zeros;
    }
