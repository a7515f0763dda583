-- Numbers in a row, and slices whose first columns are claimed.
use Rattle.std.proofs.Common.{◌≡◌, ℕ, zero, suc, ◌+◌, ◌<◌, ◌≤◌, ⊎_elim, true, false, ◌||◌, List, [], ◌∷◌, ◌++◌, refl, ap, ◌∙◌, arith}
use Rattle.std.proofs.Math.Bool.{or-true}
use Rattle.std.proofs.lemmas.Bool.{or_from}
use Rattle.std.proofs.lemmas.Bool.Decides.{eqb_tells}
use Rattle.std.specs.List.{list_any, range_with_len}
use Rattle.std.specs.Prelude.{◌==◌}
use Rattle.funnel_model.specs.declared.event.Event.{Event}
use Rattle.funnel_model.specs.Slices.{claimed, HasUnclaimed, IsFilled}

-- numbers in a row, and one more
pub range_with_len-push : (from n : ℕ) → range_with_len from (n + 1) ≡ range_with_len from n ++ (from + n) ∷ []
range_with_len-push from zero = ap (λ m. m ∷ []) (let h : from ≡ from + 0 = omega arith in h)
range_with_len-push from (suc n) =
    let at : from + 1 + n ≡ from + suc n = omega arith in
    ap (range_with_len from) (let more : suc n + 1 ≡ suc (n + 1) = omega arith in more)
    ∙ ap (λ ns. from ∷ ns) (range_with_len-push (from + 1) n ∙ ap (λ m. range_with_len (from + 1) n ++ m ∷ []) at)

-- a number is among n numbers in a row exactly where it is at least the first and below the end
pub any_in_range : (from n c : ℕ) → from ≤ c → c < from + n → list_any (λ k. k == c) (range_with_len from n) ≡ true
any_in_range from zero c low high = absurd (omega arith)
any_in_range from (suc n) c low high =
    ⊎_elim (λ is. ap (λ b. b || list_any (λ k. k == c) (range_with_len (from + 1) n)) is.0)
    (λ other. ap (λ b. (from == c) || b) (any_in_range (from + 1) n c (let ne = other.1 in omega arith) (omega arith)) ∙ or-true (from == c))
    (eqb_tells from c)

pub none_in_range : (from n c : ℕ) → from + n ≤ c → list_any (λ k. k == c) (range_with_len from n) ≡ false
none_in_range from zero c high = refl
none_in_range from (suc n) c high =
    or_from (from == c) (list_any (λ k. k == c) (range_with_len (from + 1) n))
    (⊎_elim (λ is. absurd (omega (arith, is.1))) (λ other. other.0) (eqb_tells from c))
    (none_in_range (from + 1) n c (omega arith))

-- a slice with fewer claimed columns than it has leaves the next one unclaimed, and one with no fewer is filled
pub unclaimed_next : (columns slice n : ℕ) (history : List Event) → claimed slice history ≡ range_with_len 0 n → n < columns → HasUnclaimed columns slice history
unclaimed_next columns slice n history first room =
    (n, room, ap (list_any (λ k. k == n)) first ∙ none_in_range 0 n n (omega arith))

pub filled_by : (columns slice n : ℕ) (history : List Event) → claimed slice history ≡ range_with_len 0 n → columns ≤ n → IsFilled columns slice history
filled_by columns slice n history first full column in' =
    ap (list_any (λ k. k == column)) first ∙ any_in_range 0 n column (omega arith) (omega arith)
