use Rattle.std.proofs.Common.{◌≡◌, ℕ, ◌+◌, ◌*◌, ◌^◌, ◌<◌, ◌≤◌, length, get_or}
use Rattle.funnel_model.specs.Sizes.{shared_rows, base_of_rank}
use Rattle.treatment.proofs.sizing.sizes.Given as goal

-- the ranks below this one are laid out
abbrev pub invariant-loop-rank : goal.invariant-loop-rank
invariant-loop-rank l = record {
  slice_words : l.slice_words ≡ base_of_rank l.config l.rank;
  small : l.slice_words ≤ 2 ^ 28 + l.rank * 2 ^ 32;
  seven : length l.rows ≡ 7;
  done : (r : ℕ) → r < l.rank → get_or l.rows r 0 ≡ shared_rows l.config r;
  left : (r : ℕ) → l.rank ≤ r → get_or l.rows r 0 ≡ 0;
}
