-- The tokens of running finds: what they guard, and what they may read.
use Rattle.std.specs.Prelude.{ℕ, ◌+◌, ◌<◌, ◌≡◌, ◌&&◌, false, List, ◌∷◌, ◌++◌, length, nat_lt, Option, Some, None, if◌then◌else◌}
use Rattle.std.specs.List.{list_any}
use Rattle.funnel_model.specs.declared.event.Event.{Event}
use Rattle.funnel_model.specs.declared.event.Event.TheVariants as event
use Rattle.funnel_model.specs.Events.{finds_or_ends}
use Rattle.funnel_model.specs.History.{Document}
use Rattle.funnel_model.specs.Slices.{ColumnState, Live, Deleted, IsInUse, IsRetired, IsRetiredAt}

-- the pass has an open token with this number: that of its last find, which it hasn't ended
pub record HasToken (history : List Event) (pass number : ℕ) : Type 0 where
  pub earlier : List Event
  pub query : List ℕ
  pub later : List Event
  pub whole : history ≡ earlier ++ event.Find pass query ∷ later
  pub count : number ≡ length earlier + 1
  pub stays : list_any (finds_or_ends pass) later ≡ false

-- the pass began its find before the slice retired, and hasn't ended it; this is its token's number
pub record Guards (columns : ℕ) (history : List Event) (slice pass number : ℕ) : Type 0 where
  pub token : HasToken history pass number
  pub retired : IsRetired columns slice history
  pub retired_at : ℕ
  pub at_event : IsRetiredAt columns slice history retired_at
  pub before : number < retired_at

-- some pass guards the slice
abbrev pub IsGuarded : ℕ → List Event → ℕ → Type 0
IsGuarded columns history slice = (pass : ℕ) × (number : ℕ) × Guards columns history slice pass number

-- a find of the pass is open and may read the slice, which was in use before it began
pub record MayRead (columns : ℕ) (history : List Event) (pass slice : ℕ) : Type 0 where
  pub number : ℕ
  pub token : HasToken history pass number
  pub in_use : IsInUse columns slice token.earlier

-- the document that a find with this number sees in a column: one that was put there before the find began, and wasn't taken off
-- before it
abbrev pub seen_by : ℕ → ColumnState → Option Document
seen_by number (Live document since) = if nat_lt since number then Some document else None
seen_by number (Deleted document since until) = if nat_lt since number && nat_lt number until then Some document else None
seen_by number _ = None
