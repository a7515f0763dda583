use Rattle.std.proofs.Common.{◌≡◌, ℕ, ◌+◌, ◌*◌, ◌<◌, ◌^◌, get_or}
use Rattle.std.specs.Prelude.{min}
use Rattle.treatment.proofs.Counting.{rows_so_far}
use Rattle.treatment.proofs.demands.add_bits.Given as goal

-- the rows before this one were added
abbrev pub invariant-loop-j : goal.invariant-loop-j
invariant-loop-j l =
    (r : ℕ) → r < 7
    → get_or l.bits r 0 ≡ get_or l.initial.bits r 0 + min l.config.documents (l.count * 2 ^ r) * rows_so_far l.class l.rows l.config.max_rank r l.j
