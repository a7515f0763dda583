-- The passes of a new engine.
use Rattle.std.proofs.Common.{◌≡◌, ℕ, zero, suc, ◌+◌, List, [], ◌∷◌, map, refl, sym, ap, subst}
use Rattle.std.proofs.lemmas.List.Elements.{All-cons, All-nil}
use Rattle.std.specs.List.{All, range_with_len}
use Rattle.commit_desk.specs.Passes.{IsResting}
use Rattle.engine.specs.Passes.{PassView, new_pass, view_of}
use Rattle.slice_rule.specs.Pools.{PoolId}
use Rattle.slice_rule.specs.Seats.{PassState, new_pass_state}

-- new passes rest
pub new_rest : (pool : PoolId) (numbers : List ℕ) → All (IsResting pool) (map (new_pass_state pool) numbers)
new_rest pool [] = All-nil (IsResting pool)
new_rest pool (number ∷ numbers) =
    All-cons (IsResting pool) (new_pass_state pool number) (map (new_pass_state pool) numbers)
    (record { seated = record { same = refl; none_outstanding = refl }; idle = tt }) (new_rest pool numbers)

pub new_seats_rest : (named pool : PoolId) (seats : List PassState) → pool ≡ named → seats ≡ map (new_pass_state pool) (range_with_len 0 pool.config.passes) → All (IsResting named) seats
new_seats_rest named pool seats is are =
    subst (λ (p : PoolId). All (IsResting p) seats) is (subst (All (IsResting pool)) (sym are) (new_rest pool (range_with_len 0 pool.config.passes)))

-- what their seats tell of them
pub new_views : (pool : PoolId) (numbers : List ℕ) → map view_of (map (new_pass_state pool) numbers) ≡ map new_pass numbers
new_views pool [] = refl
new_views pool (number ∷ numbers) = ap (λ (passes : List PassView). new_pass number ∷ passes) (new_views pool numbers)

-- and stand by their numbers
pub new_numbers : (from count : ℕ) → map (λ (pass : PassView). pass.number) (map new_pass (range_with_len from count)) ≡ range_with_len from count
new_numbers from zero = refl
new_numbers from (suc count) = ap (λ (ns : List ℕ). from ∷ ns) (new_numbers (from + 1) count)
