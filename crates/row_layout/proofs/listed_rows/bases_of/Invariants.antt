use Rattle.std.proofs.Common.{◌≡◌, ℕ, ◌<◌, length, get_or}
use Rattle.funnel_model.specs.Sizes.{base_of_rank}
use Rattle.row_layout.proofs.listed_rows.bases_of.Given as goal

-- the ranks below this one have their bases
abbrev pub invariant-loop-rank : goal.invariant-loop-rank
invariant-loop-rank l = record {
  base : l.base ≡ base_of_rank l.config l.rank;
  seven : length l.bases ≡ 7;
  done : (r : ℕ) → r < l.rank → get_or l.bases r 0 ≡ base_of_rank l.config r;
}
