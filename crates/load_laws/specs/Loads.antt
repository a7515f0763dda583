-- What the calls of a load are answered: what a plain list of documents tells.
use Rattle.std.specs.Prelude.{ℕ, ◌+◌, ◌*◌, ◌≤◌, ◌≡◌, ◌==◌, ⊤, Bool, true, false, not, List, [], ◌∷◌, ◌++◌, map, filter}
use Rattle.std.specs.List.{count_by, list_any}
use Rattle.funnel_model.specs.declared.call.Call.{Call}
use Rattle.funnel_model.specs.declared.call.Call.TheVariants as call
use Rattle.funnel_model.specs.declared.reply.Reply.{Reply}
use Rattle.funnel_model.specs.declared.reply.Reply.TheVariants as reply
use Rattle.funnel_model.specs.declared.event.Event.{Event}
use Rattle.funnel_model.specs.History.{live, place}
use Rattle.funnel_model.specs.Legal.{Limits}
use Rattle.funnel_model.specs.Words.{meets}

-- whether one of the documents has this number; a document is its number and its text
abbrev pub holds : ℕ → List (ℕ × List ℕ) → Bool
holds id documents = list_any (λ d. d.0 == id) documents

-- the documents without the one of this number
abbrev pub without : ℕ → List (ℕ × List ℕ) → List (ℕ × List ℕ)
without id documents = filter (λ d. not (d.0 == id)) documents

-- the numbers of the documents that have every word of the query
abbrev pub numbers_meeting : List (ℕ × List ℕ) → List ℕ → List ℕ
numbers_meeting documents query = map (λ d. d.0) (filter (λ d. meets d.1 query) documents)

-- what the calls are answered where these documents are held, after so many commits; a load has adds, deletes and finds alone
abbrev pub answers_from : ℕ → List (ℕ × List ℕ) → List Call → List Reply
answers_from place documents [] = []
answers_from place documents (call.Add id text ∷ calls) = reply.Added (place + 1) ∷ answers_from (place + 1) (documents ++ (id, text) ∷ []) calls
answers_from place documents (call.Delete id ∷ calls) = reply.Deleted (place + 1) ∷ answers_from (place + 1) (without id documents) calls
answers_from place documents (call.Find query ∷ calls) = reply.Found (numbers_meeting documents query) ∷ answers_from place documents calls
answers_from place documents (_ ∷ calls) = answers_from place documents calls

-- what they are answered where nothing was committed before
abbrev pub answers_of : List (ℕ × List ℕ) → List Call → List Reply
answers_of documents calls = answers_from 0 documents calls

-- the documents that are held after the calls
abbrev pub held_after : List (ℕ × List ℕ) → List Call → List (ℕ × List ℕ)
held_after documents [] = documents
held_after documents (call.Add id text ∷ calls) = held_after (documents ++ (id, text) ∷ []) calls
held_after documents (call.Delete id ∷ calls) = held_after (without id documents) calls
held_after documents (_ ∷ calls) = held_after documents calls

-- each add's number is new among the documents that are held by then, each delete's number is one of theirs, and there are no
-- calls but adds, deletes and finds
abbrev pub AreInTurn : List (ℕ × List ℕ) → List Call → Type 0
AreInTurn documents [] = ⊤
AreInTurn documents (call.Add id text ∷ calls) = (holds id documents ≡ false) × AreInTurn (documents ++ (id, text) ∷ []) calls
AreInTurn documents (call.Delete id ∷ calls) = (holds id documents ≡ true) × AreInTurn (without id documents) calls
AreInTurn documents (call.Find query ∷ calls) = AreInTurn documents calls
AreInTurn documents (_ ∷ calls) = ⊥

-- whether the call is an add
abbrev pub is_add : Call → Bool
is_add (call.Add id text) = true
is_add _ = false

-- whether the call is an add or a delete
abbrev pub is_commit : Call → Bool
is_commit (call.Add id text) = true
is_commit (call.Delete id) = true
is_commit _ = false

-- how many of the calls are adds, and how many are commits
abbrev pub adds_in : List Call → ℕ
adds_in calls = count_by is_add calls

abbrev pub commits_in : List Call → ℕ
commits_in calls = count_by is_commit calls

-- the calls fit an engine that is empty: they are in turn, and it has a column for each add
pub record FitsEmptyEngine (limits : Limits) (calls : List Call) : Type 0 where
  pub in_turn : AreInTurn [] calls
  pub columns : adds_in calls ≤ limits.slices * limits.columns

-- the history of an engine to which a load was put: these documents are live, and so many commits were made
pub record HasDocuments (history : List Event) (documents : List (ℕ × List ℕ)) (commits : ℕ) : Type 0 where
  pub held : map (λ d. (d.id, d.text)) (live history) ≡ documents
  pub at_place : place history ≡ commits
