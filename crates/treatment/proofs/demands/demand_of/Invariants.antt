use Rattle.std.proofs.Common.{◌≡◌, ℕ, ◌<◌, get_or}
use Rattle.treatment.proofs.Passes.{private_so_far, bits_so_far}
use Rattle.treatment.proofs.demands.demand_of.Given as goal

-- the words before this one were counted
abbrev pub invariant-loop-count : goal.invariant-loop-count
invariant-loop-count l = record {
  private : l.private ≡ private_so_far l.config l.count-index;
  bits : (r : ℕ) → r < 7 → get_or l.bits r 0 ≡ bits_so_far l.config r l.count-index;
}
