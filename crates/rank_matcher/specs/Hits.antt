-- The columns of a slice that a plan finds.
use Rattle.std.specs.Prelude.{ℕ, Bool, List, filter}
use Rattle.std.specs.List.{list_all, range_with_len}
use Rattle.funnel_model.specs.Sizes.{columns_of_slice}
use Rattle.row_layout.specs.DocumentBits.{bit_of_row}
use Rattle.row_layout.specs.Layouts.{LayoutId}
use Rattle.row_layout.specs.declared.row.Row.{Row}
use Rattle.row_read.specs.Bits.{is_set}

-- whether the bit of a column of the slice is set in every one of these rows
abbrev pub is_hit : LayoutId → List ℕ → List Row → ℕ → ℕ → Bool
is_hit layout words rows slice column =
    list_all (λ row. is_set words (bit_of_row layout.room slice column row)) rows

-- the columns of the slice whose bit is set in every row of the plan, in rising order; without rows it is every column
unfoldable pub hits : LayoutId → List ℕ → List Row → ℕ → List ℕ
hits layout words plan slice = filter (is_hit layout words plan slice) (range_with_len 0 (columns_of_slice layout.config))
