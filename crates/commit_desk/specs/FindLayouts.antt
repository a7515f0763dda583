-- By which layouts a find reads the slices of its token.
use Rattle.std.specs.Prelude.{◌≡◌, ℕ, List, AllPairs, Contains}
use Rattle.funnel_model.specs.declared.claim.Token.{Token}
use Rattle.funnel_model.specs.declared.config.Config.{Config}
use Rattle.funnel_model.specs.declared.event.Event.{Event}
use Rattle.funnel_model.specs.Tunings.{treat}
use Rattle.slice_rule.specs.Pools.{PoolId}
use Rattle.commit_desk.specs.declared.find_layouts.FindLayout.{FindLayout}
use Rattle.commit_desk.specs.Layouts.{SuitsOpening, treatment_number}

-- after these events each of the slices is treated by this configuration
abbrev pub AreOfTreatment : Config → List Event → Config → List ℕ → Type 0
AreOfTreatment opening history config slices = (slice : ℕ) → Contains slices slice → treat opening slice history ≡ config

-- the entry has some slice, and the layout of each of its slices: its configuration, which the engine may have, treats them, in the room
-- that each slice of the pool has, and its number is that of their treatment
pub record IsFindLayout (pool : PoolId) (history : List Event) (entry : FindLayout) : Type 0 where
  pub some : (slice : ℕ) × Contains entry.slices slice
  pub room : entry.layout.room ≡ pool.limits.slice_words
  pub suits : SuitsOpening pool.config entry.layout.config
  pub treated : AreOfTreatment pool.config history entry.layout.config entry.slices
  pub numbered : (slice : ℕ) → Contains entry.slices slice → treatment_number slice history ≡ entry.number

-- each slice of the token is in one entry, which has its layout after these events, and there is one entry for a treatment
pub record AreFindLayouts (pool : PoolId) (history : List Event) (token : Token) (entries : List FindLayout) : Type 0 where
  pub every : (slice : ℕ) → Contains token.slices slice → (entry : FindLayout) × Contains entries entry × Contains entry.slices slice
  pub among : (entry : FindLayout) → Contains entries entry → (slice : ℕ) → Contains entry.slices slice → Contains token.slices slice
  pub apart : AllPairs (λ (one other : FindLayout). (slice : ℕ) → Contains one.slices slice → Contains other.slices slice → ⊥) entries
  pub differ : AllPairs (λ (one other : FindLayout). one.number ≡ other.number → ⊥) entries
  pub each : (entry : FindLayout) → Contains entries entry → IsFindLayout pool history entry
