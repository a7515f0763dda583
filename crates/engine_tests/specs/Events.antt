-- Which events calls make.
use Rattle.std.specs.Prelude.{◌≡◌, ℕ, List, [], ◌∷◌, ◌++◌}
use Rattle.funnel_model.specs.declared.bit_list.Bit.{Bit}
use Rattle.funnel_model.specs.declared.claim.Claim.{Claim}
use Rattle.funnel_model.specs.declared.config.Config.{Config}
use Rattle.funnel_model.specs.declared.event.Event.{Event}
use Rattle.funnel_model.specs.declared.event.Event.TheVariants as event
use Rattle.funnel_model.specs.History.{IsFrontOf, answer}
use Rattle.funnel_model.specs.Legal.{Limits}
use Rattle.engine.specs.Moves.{AreBitsAt}

-- events of other passes came, and then these of the pass
pub record Makes (pass : ℕ) (before after events : List Event) : Type 0 where
  pub earlier : List Event
  pub others : IsFrontOf pass before earlier
  pub whole : after ≡ earlier ++ events

-- so one event of the pass, and then another
pub record MakesTwo (pass : ℕ) (before after : List Event) (first second : Event) : Type 0 where
  pub middle : List Event
  pub begins : Makes pass before middle (first ∷ [])
  pub ends : Makes pass middle after (second ∷ [])

-- this is the last event
abbrev pub EndsWith : Event → List Event → Type 0
EndsWith e after = (earlier : List Event) × (after ≡ earlier ++ e ∷ [])

-- the last event adds the document, with exactly the bits of its text, by the treatment that the slice had when the column was claimed
pub record EndsWithAdd (config : Config) (limits : Limits) (pass id : ℕ) (text : List ℕ) (after : List Event) : Type 0 where
  pub claimed : List Event
  pub earlier : List Event
  pub seen : IsFrontOf pass claimed earlier
  pub claim : Claim
  pub bits : List Bit
  pub of_text : AreBitsAt config limits claimed text claim bits
  pub whole : after ≡ earlier ++ event.Add pass id text claim.slice claim.column bits ∷ []

-- a find began and ended, and is answered by what was live when it began
pub record FindsBetween (pass : ℕ) (before after : List Event) (query ids : List ℕ) : Type 0 where
  pub events : MakesTwo pass before after (event.Find pass query) (event.End pass)
  pub found : ids ≡ answer events.begins.earlier query
