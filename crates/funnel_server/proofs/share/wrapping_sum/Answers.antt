-- The sum so far, of the numbers so far, stays in 64 bits.
use Rattle.std.proofs.Common.{◌≡◌, ◌%◌, ◌^◌, sum, subst, refl, rules}
use Rattle.std.proofs.lemmas.Fn.{fold_over, slice_gives, fronts}
use Rattle.funnel_server.proofs.Sums.{wrapped-push}
use Rattle.funnel_server.proofs.share.wrapping_sum.Goals as goal

pub returns : goal.returns
returns c = subst (λ ids. c.fold.result ≡ sum ids % 2 ^ 64) c.iter.ensures.rest
    (fold_over fronts (λ y. y.now) _ (λ ids total. total ≡ sum ids % 2 ^ 64) _ (λ ids total id b f' so_far k. let more = wrapped-push ids id.now total so_far in search rules)
    _ _ _ _ (slice_gives c.iter.result) refl c.fold.ensures.ran)
