-- The adds and deletes of a history, which alone say what is live.
use Rattle.std.specs.Prelude.{ℕ, ◌+◌, ◌≡◌, List, [], ◌∷◌, ◌++◌, length, map, take, Option, Some, None}
use Rattle.std.specs.List.{filter_map}
use Rattle.funnel_model.specs.declared.event.Event.{Event}
use Rattle.funnel_model.specs.declared.event.Event.TheVariants as event
use Rattle.funnel_model.specs.History.{Document, live}

-- an add and a delete with nothing but what they say of documents
abbrev pub added : ℕ → List ℕ → Event
added id text = event.Add 0 id text 0 0 []

abbrev pub deleted : ℕ → Event
deleted id = event.Del 0 id

-- the add or the delete that the event is, if it is one: an add with its number and text alone, a delete with its number alone
abbrev pub bare_of : Event → Option Event
bare_of (event.Add pass id text slice column bits) = Some (added id text)
bare_of (event.Del pass id) = Some (deleted id)
bare_of _ = None

-- the adds and deletes of the history, in order
abbrev pub bare : List Event → List Event
bare history = filter_map bare_of history

-- the documents that were live after the first so many adds and deletes
abbrev pub live_at : List Event → ℕ → List Document
live_at history n = live (take n (bare history))

-- the numbers and texts of the live documents, in the order of their adds
abbrev pub documents : List Event → List (ℕ × List ℕ)
documents history = map (λ d. (d.id, d.text)) (live history)

-- the document is the one that the event at its place adds, where the first event has the place 1
pub record IsAddedAtItsPlace (events : List Event) (document : Document) : Type 0 where
  pub before : List Event
  pub later : List Event
  pub whole : events ≡ before ++ added document.id document.text ∷ later
  pub place : document.place ≡ length before + 1
