-- the ranks below this one have their places
use Rattle.std.proofs.Common.{◌≡◌, ℕ, ◌+◌, ◌*◌, ◌/◌, ◌^◌, ◌<◌, length, get_or}
use Rattle.funnel_model.specs.Sizes.{base_of_rank, width_of_rank}
use Rattle.row_layout.proofs.layout.Layout.places.Given as goal

abbrev pub invariant-loop-rank : goal.invariant-loop-rank
invariant-loop-rank l = record {
  words_seven : length l.words ≡ 7;
  widths_seven : length l.widths ≡ 7;
  words_done : (r : ℕ) → r < l.rank → get_or l.words r 0 ≡ l.first + base_of_rank l.self.config r + l.column / (64 * 2 ^ r);
  widths_done : (r : ℕ) → r < l.rank → get_or l.widths r 0 ≡ width_of_rank l.self.config r;
}
