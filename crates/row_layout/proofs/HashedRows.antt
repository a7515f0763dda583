-- The shared rows that a hash names.
use Rattle.std.proofs.Common.{◌≡◌, ℕ, ◌+◌, ◌*◌, ◌/◌, ◌^◌, ◌<◌, ◌≤◌, List, [], length, get_or, ap, sym, subst, refl, inr, arith}
use Rattle.funnel_model.specs.Sizes.{base_of_rank, shared_rows, width_of_rank}
use Rattle.funnel_model.specs.Treatment.{row_count_of_class}
use Rattle.funnel_model.specs.declared.config.Config.{Config}
use Rattle.row_layout.specs.ColumnPlaces.{ArePlaces}
use Rattle.row_layout.specs.Layouts.{IsClassTable}
use Rattle.row_layout.specs.Rows.{IsRowOf, shared_row}
use Rattle.row_layout.specs.declared.class_table.ClassTable.{ClassTable}
use Rattle.row_layout.specs.declared.column_places.ColumnPlaces.{ColumnPlaces}
use Rattle.row_layout.specs.declared.row.Row.{Row}

-- the rank in the table is not above the highest
pub rank-low : (config known : Config) (classes : ClassTable) (class j : ℕ) → config ≡ known → IsClassTable config classes → class ≤ 15 →
    j < row_count_of_class known.one_in known.snr class → get_or (get_or classes.ranks class []) j 0 ≤ config.max_rank
rank-low config known classes class j same table last below =
    table.ranks_low class j last (subst (λ (k : Config). j < row_count_of_class k.one_in k.snr class) (sym same) below)

pub rank-inside : (rows : List ℕ) (rank most : ℕ) → rank ≤ most → most ≤ 6 → length rows ≡ 7 → rank < length rows
rank-inside rows rank most low small seven = omega arith

-- the word of a column in a shared row, from the places of the column
abbrev pub word_at : Config → ColumnPlaces → ℕ → ℕ → ℕ
word_at config places rank number = places.first + (base_of_rank config rank + number * width_of_rank config rank) + places.column / (64 * 2 ^ rank)

pub word-from_places : (config : Config) (places : ColumnPlaces) (rank number : ℕ) → ArePlaces config places → rank ≤ config.max_rank →
    get_or places.words rank 0 + number * get_or places.widths rank 0 ≡ word_at config places rank number
word-from_places config places rank number are low =
    let width : number * get_or places.widths rank 0 ≡ number * width_of_rank config rank = ap (λ (w : ℕ). number * w) (are.widths_are rank low) in
    omega (arith, are.words_are rank low)

pub word-small : (config : Config) (places : ColumnPlaces) (rank number : ℕ) → ArePlaces config places → rank ≤ config.max_rank → number < shared_rows config rank →
    ((row : Row) → IsRowOf config row → places.first + row.start + places.column / (64 * 2 ^ row.rank) < 2 ^ 32) → get_or places.words rank 0 + number * get_or places.widths rank 0 < 2 ^ 32
word-small config places rank number are low few fits =
    let row : Row = shared_row config rank number in
    subst (λ (n : ℕ). n < 2 ^ 32) (sym (word-from_places config places rank number are low)) (fits row (inr (rank, number, low, few, refl)))
