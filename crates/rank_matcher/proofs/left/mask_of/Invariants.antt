use Rattle.std.proofs.Common.{length, ◌-◌, ◌≡◌, ◌↔◌, ℕ, ◌+◌, ◌*◌, ◌<◌, ◌≤◌, true, Contains, map, take}
use Rattle.std.specs.List.{All}
use Rattle.rank_matcher.specs.Left.{IsOfWord}
use Rattle.row_read.specs.Bits.{has_bit}
use Rattle.rank_matcher.proofs.left.mask_of.Given as goal

-- the candidates so far are of the word, and have their bits in the mask
abbrev pub invariant-loop-count : goal.invariant-loop-count
invariant-loop-count l = record {
  within : l.count ≤ length l.columns;
  mask : (bit : ℕ) → bit < 64 → (has_bit l.mask bit ≡ true) ↔ Contains (map (λ (c : ℕ × ℕ). c.1) (take l.count l.columns)) (64 * l.word + bit);
  of_word : All (IsOfWord l.word) (take l.count l.columns);
}

abbrev pub decreases-loop-count : goal.decreases-loop-count
decreases-loop-count l = length l.columns - l.count
