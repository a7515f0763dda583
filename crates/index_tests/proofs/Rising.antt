-- Three words that rise, from the order of each two.
use Rattle.std.proofs.Common.{◌≡◌, ℕ, List, [], ◌∷◌}
use Rattle.std.specs.List.Sorted.{IsStrictlySortedBy}
use Rattle.std.specs.Cmp.Lexicographic.{slice_cmp}
use Rattle.std.specs.Ordering.{nat_cmp}
use Rattle.std.specs.declared.cmp.Ordering.TheVariants.{Less}

pub three_rise : (a b d : List ℕ) → slice_cmp nat_cmp a b ≡ Less → slice_cmp nat_cmp a d ≡ Less → slice_cmp nat_cmp b d ≡ Less → IsStrictlySortedBy (slice_cmp nat_cmp) (a ∷ b ∷ d ∷ [])
unfolding IsStrictlySortedBy
three_rise a b d p q r = ((p, (q, tt)), ((r, tt), (tt, tt)))
