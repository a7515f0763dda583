-- The world of a pool: what the rule speaks of beside the words and the views.
use Rattle.std.specs.Prelude.{ℕ, ◌+◌, ◌≤◌, ◌==◌, List, length, filter}
use mathlib.Core.List.{IsPrefix}
use Rattle.funnel_model.specs.declared.event.Event.{Event}
use Rattle.funnel_model.specs.Events.{pass_of}

-- the history, what each pass asked, which seat has the number of a pass, which seat is the home, and how many passes have a
-- seat of their own
pub record World : Type 0 where
  pub history : List Event
  pub asked : ℕ → List Event
  pub seat : ℕ → ℕ
  pub home : ℕ
  pub seated : ℕ

-- the events of a pass, in order
abbrev pub made_by : ℕ → List Event → List Event
made_by pass history = filter (λ e. pass_of e == pass) history

-- the first events are all of the others, or all but the last
pub record LacksAtMostOne (made asked : List Event) : Type 0 where
  pub begins : IsPrefix made asked
  pub few : length asked ≤ length made + 1
