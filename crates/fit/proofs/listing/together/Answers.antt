use Rattle.std.proofs.Common.{◌≡◌, ap, arith, get_or, take}
use Rattle.std.proofs.lemmas.List.Sums.{sum_by_more_le}
use Rattle.fit.proofs.Orders.{total-ranked}
use Rattle.fit.proofs.listing.together.Goals as goal

pub overflow_add-sum : goal.overflow_add-sum
overflow_add-sum c =
    let first = c.args.first.now in
    let i = c.loop-count.count-index in
    let item = c.loop-count-item.result in
    let here : item.0.0 ≡ (get_or first i item).0.0 = ap (λ e. e.0.0) c.loop-count-item.is in
    omega (arith, c.requires, c.loop-count.invariant, total-ranked first, total-ranked (take i first), sum_by_more_le (λ e. e.0.0) first i item c.loop-count-test.true, here)
