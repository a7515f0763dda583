-- Lists of rows, and the order of those of a plan.
use Rattle.std.specs.Prelude.{◌≡◌, ℕ, ◌≤◌, ◌↔◌, nat_eq, nat_le, nat_lt, List, Contains, filter, length, slice_index}
use Rattle.std.specs.List.Sorted.{IsStrictlySortedBy}
use Rattle.std.specs.Ordering.{nat_cmp, ordering_then}
use Rattle.std.specs.declared.cmp.Ordering.{Ordering}
use Rattle.funnel_model.specs.declared.config.Config.{Config}
use Rattle.row_layout.specs.Rows.{rows_of_words}
use Rattle.row_layout.specs.declared.row.Row.{Row}

-- by falling rank, and within a rank by where rows start
abbrev pub plan_cmp : Row → Row → Ordering
plan_cmp a b = ordering_then (nat_cmp b.rank a.rank) (nat_cmp a.start b.start)

-- rows in the order of a plan, each once
abbrev pub IsInPlanOrder : List Row → Type 0
IsInPlanOrder = IsStrictlySortedBy plan_cmp

-- the rows of a rank, and those of a rank and above, in the order of the list
abbrev pub rows_of_rank : ℕ → List Row → List Row
rows_of_rank rank rows = filter (λ row. nat_eq row.rank rank) rows

abbrev pub rows_from_rank : ℕ → List Row → List Row
rows_from_rank rank rows = filter (λ row. nat_le rank row.rank) rows

-- the rows below a rank
abbrev pub rows_below_rank : ℕ → List Row → List Row
rows_below_rank rank rows = filter (λ row. nat_lt row.rank rank) rows

-- rows in the order of a plan, with how many of them have a rank of at least 0, 1 and so on, up to 7
pub record IsPlanned (rows : List Row) (from_rank : List ℕ) : Type 0 where
  pub in_order : IsInPlanOrder rows
  pub counts : (rank : ℕ) → rank ≤ 7 → slice_index from_rank rank ≡ length (rows_from_rank rank rows)

-- the list has exactly the rows of these words
abbrev pub HasRowsOf : Config → List (List ℕ) → List Row → Type 0
HasRowsOf config words rows = (row : Row) → Contains rows row ↔ Contains (rows_of_words config words) row
