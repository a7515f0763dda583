-- A call of a pass that is alone in its history, and what it does there.
use Rattle.std.specs.Prelude.{ℕ, ◌+◌, ◌<◌, ◌≡◌, ◌≢◌, ◌==◌, Bool, true, false, not, List, [], ◌∷◌, ◌++◌, length, filter}
use Rattle.std.specs.List.{All, count_by}
use Rattle.funnel_model.specs.declared.call.Call.{Call}
use Rattle.funnel_model.specs.declared.event.Event.{Event}
use Rattle.funnel_model.specs.declared.event.Event.TheVariants as event
use Rattle.funnel_model.specs.declared.reply.Reply.{Reply}
use Rattle.funnel_model.specs.declared.reply.Reply.TheVariants as reply
use Rattle.funnel_model.specs.Events.{pass_of}
use Rattle.funnel_model.specs.History.{MovesNothing, answer, live, place}
use Rattle.funnel_model.specs.Legal.{Limits}
use Rattle.funnel_model.specs.Steps.{Step}

-- whether the event claims a column
abbrev pub is_take : Event → Bool
is_take (event.Take pass slice column) = true
is_take _ = false

-- how often a column was claimed
abbrev pub count_of_takes : List Event → ℕ
count_of_takes history = count_by is_take history

-- all events are of this pass
abbrev pub IsAlone : ℕ → List Event → Type 0
IsAlone pass history = All (λ e. pass_of e ≡ pass) history

-- a call of a pass that is alone, which found memory and came before the events were spent; nothing was moved up to its end
pub record LoneStep (limits : Limits) (pass : ℕ) (before after : List Event) (asked : Call) (given : Reply) : Type 0 where
  pub step : Step limits pass before after asked given
  pub alone : IsAlone pass after
  pub unmoved : MovesNothing after
  pub unspent : length after < limits.events
  pub memory : given ≢ reply.Memory

-- the document of this number and text is added, behind those that were live, and one column was claimed for it
pub record Adds (before after : List Event) (id : ℕ) (text : List ℕ) (given : Reply) : Type 0 where
  pub reply : given ≡ reply.Added (place before + 1)
  pub documents : live after ≡ live before ++ record { id = id; text = text; place = place before + 1 } ∷ []
  pub at_place : place after ≡ place before + 1
  pub takes : count_of_takes after ≡ count_of_takes before + 1

-- the document of this number is taken away
pub record Deletes (before after : List Event) (id : ℕ) (given : Reply) : Type 0 where
  pub reply : given ≡ reply.Deleted (place before + 1)
  pub documents : live after ≡ filter (λ d. not (d.id == id)) (live before)
  pub at_place : place after ≡ place before + 1
  pub takes : count_of_takes after ≡ count_of_takes before

-- the query is answered, and nothing changes
pub record Finds (before after : List Event) (query : List ℕ) (given : Reply) : Type 0 where
  pub reply : given ≡ reply.Found (answer before query)
  pub documents : live after ≡ live before
  pub at_place : place after ≡ place before
  pub takes : count_of_takes after ≡ count_of_takes before
