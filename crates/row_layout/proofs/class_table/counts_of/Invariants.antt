-- the classes below this one are counted
use Rattle.std.proofs.Common.{◌≡◌, ℕ, ◌<◌, length, get_or}
use Rattle.funnel_model.specs.Treatment.{row_count_of_class}
use Rattle.row_layout.proofs.class_table.counts_of.Given as goal

abbrev pub invariant-loop-class : goal.invariant-loop-class
invariant-loop-class l = record {
  sixteen : length l.counts ≡ 16;
  counts : (k : ℕ) → k < l.class → get_or l.counts k 0 ≡ row_count_of_class l.config.one_in l.config.snr k;
}
