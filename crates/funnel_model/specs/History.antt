-- What a history says: its commits, its live documents and each pass's calls. A history is the list of its events, oldest first.
use Rattle.std.specs.Prelude.{ℕ, ◌+◌, ◌-◌, ◌≡◌, ◌==◌, ◌&&◌, Bool, true, false, List, [], ◌∷◌, ◌++◌, ◌||◌, length, map, filter, drop, count_by, Option, Some, None, option_to_list, if◌then◌else◌}
use Rattle.std.specs.List.{filter_map, list_any, find, fold}
use Rattle.std.specs.Option.{option_map}
use Rattle.funnel_model.specs.declared.call.Call.{Call}
use Rattle.funnel_model.specs.declared.commit.Commit.{Commit}
use Rattle.funnel_model.specs.declared.event.Event.{Event}
use Rattle.funnel_model.specs.declared.event.Event.TheVariants as event
use Rattle.funnel_model.specs.Events.{pass_of, commit_of, added_by, deletes_or_replaces, moves, call_of}
use Rattle.funnel_model.specs.Words.{meets}

-- the commits in order
abbrev pub commits : List Event → List Commit
commits history = filter_map commit_of history

-- the place of a history is its number of commits
abbrev pub place : List Event → ℕ
place history = length (commits history)

-- the commits without the first so many; none where there are no more
abbrev pub commits_after : List Event → ℕ → List Commit
commits_after history n = drop n (commits history)

-- how many commits there are before those that a journal keeps, which are the last so many; none while it keeps them all
abbrev pub base : ℕ → List Event → ℕ
base kept history = place history - kept

-- a document that is live: its number, its text, and the place right after its add
pub record Document : Type 0 where
  pub id : ℕ
  pub text : List ℕ
  pub place : ℕ

-- the document that an event adds after this many commits, unless a later event deletes it or adds another one in its place
abbrev pub document_at : ℕ → Option (ℕ × List ℕ) → List Event → Option Document
document_at before None later = None
document_at before (Some added) later =
    if list_any (deletes_or_replaces added.0) later then None else Some (record { id = added.0; text = added.1; place = before + 1 })

-- the live documents of the events that follow this many commits
abbrev pub live_from : ℕ → List Event → List Document
live_from before [] = []
live_from before (e ∷ later) = option_to_list (document_at before (added_by e) later) ++ live_from (before + place (e ∷ [])) later

-- the documents that were added and neither deleted nor replaced since, in the order of their adds
abbrev pub live : List Event → List Document
live history = live_from 0 history

-- whether a document with this number is live
abbrev pub is_live : ℕ → List Event → Bool
is_live id history = list_any (λ d. d.id == id) (live history)

-- the live document with this number
abbrev pub document_with : ℕ → List Event → Option Document
document_with id history = find (λ d. d.id == id) (live history)

-- the place of its add
abbrev pub live_place : ℕ → List Event → Option ℕ
live_place id history = option_map (λ d. d.place) (document_with id history)

-- the numbers of the live documents that have every word of the query, in the order of their adds
abbrev pub answer : List Event → List ℕ → List ℕ
answer history query = map (λ d. d.id) (filter (λ d. meets d.text query) (live history))

-- the call that an event of this pass answers
abbrev pub call_by : ℕ → Event → Option Call
call_by pass e = if pass_of e == pass then call_of e else None

-- the calls of a pass, in order
abbrev pub own : ℕ → List Event → List Call
own pass history = filter_map (call_by pass) history

-- the last event of a pass, where there is one
abbrev pub last_by : ℕ → List Event → Option Event
last_by pass history = fold (λ last e. if pass_of e == pass then Some e else last) None history

-- the history goes on from the front, and has no event of the pass after it
pub record IsFrontOf (pass : ℕ) (front history : List Event) : Type 0 where
  pub later : List Event
  pub whole : history ≡ front ++ later
  pub silent : list_any (λ e. pass_of e == pass) later ≡ false

-- how many documents the pass moved in the history; a move that came too late, which leaves its column without a document, counts too
abbrev pub moved_by : ℕ → List Event → ℕ
moved_by pass history = count_by (λ e. pass_of e == pass && moves e) history

-- whether the event, which comes after these, is a cause to move documents: it deletes one, drops one that was to be added, or adds one in
-- the place of a live one
abbrev pub is_cause : List Event → Event → Bool
is_cause history (event.Del pass id) = true
is_cause history (event.Drop pass id text slice column) = true
is_cause history (event.Add pass id text slice column bits) = is_live id history
is_cause history _ = false

-- whether one of the later events, which come after these, is such a cause
abbrev pub has_cause_from : List Event → List Event → Bool
has_cause_from history [] = false
has_cause_from history (e ∷ later) = is_cause history e || has_cause_from (history ++ e ∷ []) later

-- whether some event of the history is one
abbrev pub has_cause : List Event → Bool
has_cause history = has_cause_from [] history

-- each move has its cause before it, by which a slice has a column that is over. An engine keeps to this; a legal history need not
abbrev pub MovesAreCaused : List Event → Type 0
MovesAreCaused history =
    (earlier : List Event) (e : Event) (later : List Event) → history ≡ earlier ++ e ∷ later → moves e ≡ true → has_cause earlier ≡ true

-- no document was moved in the history, and no claimed column was left without one that no call was told of
abbrev pub MovesNothing : List Event → Type 0
MovesNothing history = list_any moves history ≡ false
