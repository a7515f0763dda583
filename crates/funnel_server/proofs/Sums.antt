-- Sums in 64 bits.
use Rattle.std.proofs.Common.{◌≡◌, ℕ, ◌+◌, ◌%◌, ◌^◌, List, [], ◌∷◌, ◌++◌, sum, sym, ap, ◌∙◌}
use Rattle.std.proofs.lemmas.List.Sums.{sum_by_push}
use Rattle.std.proofs.Math.Nat.{mod-add-mod}

-- to drop the high bits on the way changes nothing
pub wrapped-push : (ids : List ℕ) (id total : ℕ) → total ≡ sum ids % 2 ^ 64 → (total + id) % 2 ^ 64 ≡ sum (ids ++ id ∷ []) % 2 ^ 64
wrapped-push ids id total so_far =
    ap (λ n. (n + id) % 2 ^ 64) so_far ∙ mod-add-mod (sum ids) (2 ^ 64) id ∙ ap (λ n. n % 2 ^ 64) (sym (sum_by_push (λ x. x) ids id))
