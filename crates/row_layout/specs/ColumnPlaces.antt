-- Where the bits of a column stand.
use Rattle.std.specs.Prelude.{◌≡◌, ℕ, ◌+◌, ◌*◌, ◌/◌, ◌^◌, ◌≤◌, slice_index}
use Rattle.funnel_model.specs.Sizes.{base_of_rank, width_of_rank}
use Rattle.funnel_model.specs.declared.config.Config.{Config}
use Rattle.row_layout.specs.declared.column_places.ColumnPlaces.{ColumnPlaces}

-- for each rank, the word of the column in the first shared row, and the words of a row
pub record ArePlaces (config : Config) (places : ColumnPlaces) : Type 0 where
  pub words_are : (rank : ℕ) → rank ≤ config.max_rank → slice_index places.words rank ≡ places.first + base_of_rank config rank + places.column / (64 * 2 ^ rank)
  pub widths_are : (rank : ℕ) → rank ≤ config.max_rank → slice_index places.widths rank ≡ width_of_rank config rank
