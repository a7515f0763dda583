-- What a scan of a slice for a search appends: the columns that are sure to be kept, and those of which it is unsure.
use Rattle.std.specs.Prelude.{◌≡◌, ◌↔◌, ℕ, ◌+◌, ◌*◌, ◌/◌, ◌<◌, ◌≤◌, ◌&&◌, ◌++◌, Bool, true, not, List, Contains, length}
use Rattle.std.specs.declared.option.Option.{Option}
use Rattle.std.specs.declared.option.Option.TheVariants.{Some}
use Rattle.funnel_model.specs.Searches.{Searches}
use Rattle.funnel_model.specs.Sizes.{columns_of_slice}
use Rattle.funnel_model.specs.declared.bit_list.Bit.{Bit}
use Rattle.row_layout.specs.AtomReads.{AtomPlan}
use Rattle.row_layout.specs.DocumentBits.{slice_start}
use Rattle.row_layout.specs.Layouts.{LayoutId}
use Rattle.row_layout.specs.SearchPlans.{ArePlansOfSearches}
use Rattle.row_layout.specs.declared.row.Row.{Row}
use Rattle.row_layout.specs.declared.search_plan.SearchPlan.{SearchPlan}
use Rattle.rank_matcher.specs.Appended.{AppendsColumns, HasBits, appended, candidates_of}
use Rattle.rank_matcher.specs.Evaluation.{HasReadAll}
use Rattle.rank_matcher.specs.Hits.{is_hit}
use Rattle.rank_matcher.specs.Reads.{shown_reads, words_of_plan}
use Rattle.rank_matcher.specs.SliceScans.{CanScanSlice}
use Rattle.rank_matcher.specs.Walk.{passing}

-- a column is left by these rows or isn't: one whose bits each read has is left, each bit of one that is left was seen, and where the words
-- are told it is left where all its bits are set
pub record IsLeftBy (told : Option (List ℕ)) (least seen : Bit → Type 0) (layout : LayoutId) (plan : List Row) (slice column : ℕ) (is_left : Bool) : Type 0 where
  pub covered : HasBits least layout plan slice column → is_left ≡ true
  pub were_seen : is_left ≡ true → HasBits seen layout plan slice column
  pub told_is : (words : List ℕ) → told ≡ Some words → is_left ≡ is_hit layout words plan slice column

-- A scan for a search was answered so at a column: where the rows of the required words leave it, the rest of the search was read there,
-- and the column is in one list where it is sure, in the other where it only may be kept, and in neither else.
pub record IsScannedAt (told : Option (List ℕ)) (least seen : Bit → Type 0) (layout : LayoutId) (plan : List Row) (searches : Searches AtomPlan) (slice : ℕ) (sure unsure : List ℕ) (column : ℕ) : Type 0 where
  pub is_left : Bool
  pub may_be : Bool
  pub sure_is : Bool
  pub left : IsLeftBy told least seen layout plan slice column is_left
  pub read : is_left ≡ true → HasReadAll told least seen (slice_start layout.room slice) column searches may_be sure_is
  pub among_sure : Contains sure column ↔ ((is_left && sure_is) ≡ true)
  pub among_unsure : Contains unsure column ↔ ((is_left && (may_be && not sure_is)) ≡ true)

-- a slice can be searched by a plan: its rows are the layout's, and the nodes and rows are those of some searches
pub record CanSearch (reach : ℕ → Type 0) (layout : LayoutId) (search : SearchPlan) (slice : ℕ) : Type 0 where
  pub can_scan : CanScanSlice reach layout search.rows.items slice
  pub searches : Searches AtomPlan
  pub are_plans : ArePlansOfSearches searches search.nodes.items search.rows.items

-- A scan for a search appended columns of the slice to two lists, in rising order, and each column of the slice is answered so.
pub record ScansFor (told : Option (List ℕ)) (least seen : Bit → Type 0) (layout : LayoutId) (plan : List Row) (searches : Searches AtomPlan) (slice : ℕ)
    (sure unsure sure_after unsure_after : List (ℕ × ℕ)) : Type 0 where
  pub appends_sure : AppendsColumns layout slice sure sure_after
  pub appends_unsure : AppendsColumns layout slice unsure unsure_after
  pub each : (column : ℕ) → column < columns_of_slice layout.config →
      IsScannedAt told least seen layout plan searches slice (appended sure sure_after) (appended unsure unsure_after) column

-- it reads no more words than the planned rows of the required words have, and at each word of 64 columns one of each other planned row
abbrev pub ReadsFewFor : LayoutId → List Row → SearchPlan → ℕ → ℕ → Type 0
ReadsFewFor layout plan search old new = shown_reads new ≤ old + words_of_plan plan + columns_of_slice layout.config / 64 * length search.rows.items

-- The columns below n that are left were searched, and appended to one list where the search is sure there, and to the other where it only
-- may keep a document.
pub record HasSearched (told : Option (List ℕ)) (least seen : Bit → Type 0) (first : ℕ) (searches : Searches AtomPlan) (is_left : ℕ → Bool) (slice n : ℕ)
    (sure sure_after unsure unsure_after : List (ℕ × ℕ)) : Type 0 where
  pub may_be : ℕ → Bool
  pub sure_is : ℕ → Bool
  pub read : (column : ℕ) → column < n → is_left column ≡ true → HasReadAll told least seen first column searches (may_be column) (sure_is column)
  pub appends_sure : sure_after ≡ sure ++ candidates_of slice (passing (λ column. is_left column && sure_is column) 0 n)
  pub appends_unsure : unsure_after ≡ unsure ++ candidates_of slice (passing (λ column. is_left column && (may_be column && not (sure_is column))) 0 n)
