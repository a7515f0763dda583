-- What a pass that caught up still knows of a slice that it cleared.
use Rattle.std.proofs.Common.{◌≡◌, ℕ, List, sym, subst, Contains}
use Rattle.funnel_model.specs.History.{IsFrontOf}
use Rattle.funnel_model.specs.Legal.{IsInSlice}
use Rattle.slice_rule.specs.declared.view.Fact.{Fact}
use Rattle.slice_rule.specs.declared.view.Fact.TheVariants as fact
use Rattle.slice_rule.specs.Numbers.{last_number}
use Rattle.slice_rule.specs.Pools.{PoolId}
use Rattle.slice_rule.specs.Seats.{IsSamePass, PassState}
use Rattle.slice_rule.proofs.Since.{number-front}

-- all words of the slice are zero under the last event of the pass
abbrev pub AreZero : PassState → ℕ → ℕ → ℕ → Type 0
AreZero seat pass slice_words slice = (word : ℕ) → IsInSlice slice_words slice word → Contains seat.own (fact.WordZero (last_number pass seat.front) word)

-- they are so still after the pass caught up
pub zero_caught : (pool of : PoolId) (seat up : PassState) (pass slice : ℕ) → pool ≡ of → IsSamePass seat up → IsFrontOf up.number seat.front up.front → pass ≡ up.number →
    AreZero seat seat.number of.limits.slice_words slice → AreZero up pass pool.limits.slice_words slice
zero_caught pool of seat up pass slice same_pool same goes number are =
    subst (λ n. AreZero up n pool.limits.slice_words slice) (sym number)
    (subst (λ (p : PoolId). AreZero up up.number p.limits.slice_words slice) (sym same_pool)
    (λ word in'.
    subst (λ n. Contains up.own (fact.WordZero n word)) (sym (number-front up.number seat.front up.front goes))
    (subst (λ (own : List Fact). Contains own (fact.WordZero (last_number up.number seat.front) word)) (sym same.own)
    (subst (λ n. Contains seat.own (fact.WordZero (last_number n seat.front) word)) (sym same.number) (are word in')))))
