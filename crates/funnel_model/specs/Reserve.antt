-- How many columns an engine has left, and out of which slice documents are moved so that it retires.
use Rattle.std.specs.Prelude.{ℕ, ◌<◌, ◌≤◌, ◌≡◌, ◌⊎◌, ◌↔◌, Bool, true, not, List, length, slice_index, count_by}
use Rattle.std.specs.List.{range_with_len, sum}
use Rattle.funnel_model.specs.declared.event.Event.{Event}
use Rattle.funnel_model.specs.Blocks.{IsHeld}
use Rattle.funnel_model.specs.History.{Document}
use Rattle.funnel_model.specs.Legal.{Limits, CanClear}
use Rattle.funnel_model.specs.Slices.{ColumnState, Live, IsFilled, IsInState, IsInUse, IsRetired, is_claimed, is_clearing}
use Rattle.funnel_model.specs.Tokens.{IsGuarded}

-- how many columns of the slice are unclaimed
abbrev pub unclaimed_in : ℕ → ℕ → List Event → ℕ
unclaimed_in columns slice history = count_by (λ column. not (is_claimed slice column history)) (range_with_len 0 columns)

-- how many columns of the slice are spare: all of them where it is retired or being cleared, and else those that are unclaimed
abbrev pub HasSpareIn : ℕ → List Event → ℕ → ℕ → Type 0
HasSpareIn columns history slice n =
    (IsInUse columns slice history × (n ≡ unclaimed_in columns slice history))
    ⊎ ((IsRetired columns slice history ⊎ (is_clearing slice history ≡ true)) × (n ≡ columns))

-- how many columns of the slice are ready, to be taken at once or after one clear: those that are spare, but none where the slice is
-- being cleared or guarded
abbrev pub HasReadyIn : ℕ → List Event → ℕ → ℕ → Type 0
HasReadyIn columns history slice n =
    (IsInUse columns slice history × (n ≡ unclaimed_in columns slice history))
    ⊎ (CanClear columns history slice × (n ≡ columns))
    ⊎ ((IsGuarded columns history slice ⊎ (is_clearing slice history ≡ true)) × (n ≡ 0))

-- each slice has one number, and this is the sum of them
pub record IsTotal (slices : ℕ) (IsNumberOf : ℕ → ℕ → Type 0) (total : ℕ) : Type 0 where
  pub numbers : List ℕ
  pub count : length numbers ≡ slices
  pub each : (slice : ℕ) → slice < slices → IsNumberOf slice (slice_index numbers slice)
  pub adds_up : total ≡ sum numbers

-- so many columns of the engine are spare
abbrev pub HasSpareColumns : Limits → List Event → ℕ → Type 0
HasSpareColumns limits history n = IsTotal limits.slices (HasSpareIn limits.columns history) n

-- so many of them are ready
abbrev pub HasReadyColumns : Limits → List Event → ℕ → Type 0
HasReadyColumns limits history n = IsTotal limits.slices (HasReadyIn limits.columns history) n

-- so many of the numbers below this one are so: they are counted by a test that tells of each whether it is
pub record IsCount (below : ℕ) (IsSo : ℕ → Type 0) (n : ℕ) : Type 0 where
  pub test : ℕ → Bool
  pub tells : (k : ℕ) → k < below → (test k ≡ true) ↔ IsSo k
  pub count : n ≡ count_by test (range_with_len 0 below)

-- so many columns of the slice are held, which means live or pending
abbrev pub HoldsColumns : ℕ → List Event → ℕ → ℕ → Type 0
HoldsColumns columns history slice n =
    IsCount columns (λ column. (state : ColumnState) × IsInState history slice column state × IsHeld state) n

-- documents may be moved out of the slice, of which so many columns are held: it is filled, one of its columns is live, and not all of
-- them are held
pub record CanBeEmptied (columns : ℕ) (history : List Event) (slice held : ℕ) : Type 0 where
  pub filled : IsFilled columns slice history
  pub live : (column : ℕ) × (document : Document) × (since : ℕ) × (column < columns) × IsInState history slice column (Live document since)
  pub holds : HoldsColumns columns history slice held
  pub fewer : held < columns

-- documents are moved out of this slice next: of those out of which they may be moved it is the lowest with the fewest held columns
pub record IsSource (limits : Limits) (history : List Event) (slice held : ℕ) : Type 0 where
  pub in_range : slice < limits.slices
  pub can : CanBeEmptied limits.columns history slice held
  pub fewest : (other number : ℕ) → other < limits.slices → CanBeEmptied limits.columns history other number → held ≤ number
  pub lowest : (lower number : ℕ) → lower < slice → CanBeEmptied limits.columns history lower number → held < number
