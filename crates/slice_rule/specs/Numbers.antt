-- Numbers of events: the first event of a history has number 1.
use Rattle.std.specs.Prelude.{◌≡◌, ℕ, Bool, ◌+◌, ◌-◌, ◌==◌, List, [], ◌∷◌, ◌++◌, length, if◌then◌else◌}
use Rattle.std.specs.List.{fold}
use Rattle.funnel_model.specs.declared.event.Event.{Event}
use Rattle.std.specs.Option.{is_some}
use Rattle.funnel_model.specs.Events.{pass_of, column_taken_in}

-- the event with this number
pub record HasEvent (history : List Event) (number : ℕ) (event : Event) : Type 0 where
  pub earlier : List Event
  pub later : List Event
  pub whole : history ≡ earlier ++ event ∷ later
  pub count : number ≡ length earlier + 1

-- the events since the last one of a pass, or all of them where it made none
abbrev pub since : ℕ → List Event → List Event
since pass history = fold (λ events e. if pass_of e == pass then [] else events ++ e ∷ []) [] history

-- the number of the last event of a pass, and 0 where it made none
abbrev pub last_number : ℕ → List Event → ℕ
last_number pass history = length history - length (since pass history)

-- whether the event claims a column of the slice
abbrev pub takes_in : ℕ → Event → Bool
takes_in slice e = is_some (column_taken_in slice e)
