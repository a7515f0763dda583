-- How full an engine is after a history, in numbers.
use Rattle.std.specs.Prelude.{ℕ, ◌*◌, ◌≡◌, List, length, map}
use Rattle.std.specs.List.{range_with_len, sum}
use Rattle.funnel_model.specs.declared.event.Event.{Event}
use Rattle.funnel_model.specs.declared.stats.Stats.{Stats}
use Rattle.funnel_model.specs.History.{base, live, place}
use Rattle.funnel_model.specs.Legal.{Limits}
use Rattle.funnel_model.specs.Reserve.{IsCount, unclaimed_in}
use Rattle.funnel_model.specs.Slices.{IsRetired}
use Rattle.funnel_model.specs.Tokens.{HasToken}

-- how many columns of the engine are unclaimed, none of them in a slice that is retired or being cleared
abbrev pub unclaimed_columns : Limits → List Event → ℕ
unclaimed_columns limits history = sum (map (λ slice. unclaimed_in limits.columns slice history) (range_with_len 0 limits.slices))

-- a find of the pass is running
abbrev pub IsFinding : List Event → ℕ → Type 0
IsFinding history pass = (number : ℕ) × HasToken history pass number

-- these are the engine's numbers. A pass that is idle runs no find, so those that it is told are of others
pub record AreStats (limits : Limits) (history : List Event) (stats : Stats) : Type 0 where
  pub documents_are : stats.documents ≡ length (live history)
  pub place_is : stats.place ≡ place history
  pub base_is : stats.base ≡ base limits.commits history
  pub columns_are : stats.columns ≡ limits.slices * limits.columns
  pub free_are : stats.free ≡ unclaimed_columns limits history
  pub retired_are : IsCount limits.slices (λ slice. IsRetired limits.columns slice history) stats.retired
  pub finds_are : IsCount limits.passes (IsFinding history) stats.finds
