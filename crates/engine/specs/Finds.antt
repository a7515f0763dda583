-- Finds: what an open one scans for, what it has found of its slices, and the turns of a find at the desk.
use Rattle.std.specs.Prelude.{◌≡◌, ℕ, ◌<◌, ◌⊎◌, Bool, true, false, List, [], ◌∷◌, ◌++◌, length, Contains, Option, None, Some, Result, Ok, Err}
use Rattle.std.specs.List.{AllPairs}
use Rattle.document_store.specs.Finding.{FoundState}
use Rattle.row_layout.specs.Sound.{IsSound}
use Rattle.funnel_model.specs.declared.claim.Token.{Token}
use Rattle.funnel_model.specs.declared.event.Event.{Event}
use Rattle.funnel_model.specs.declared.event.Event.TheVariants as event
use Rattle.funnel_model.specs.History.{Document, IsFrontOf, answer}
use Rattle.funnel_model.specs.Legal.{Limits}
use Rattle.funnel_model.specs.Slices.{IsLiveOn}
use Rattle.funnel_model.specs.Tokens.{HasToken}
use Rattle.funnel_model.specs.Words.{AreWordsOf}
use Rattle.commit_desk.specs.Answers.{IsSpentAt, TakesCalls}
use Rattle.commit_desk.specs.declared.answers.FindFault.{FindFault}
use Rattle.commit_desk.specs.declared.answers.FindFault.TheVariants as find
use Rattle.commit_desk.specs.declared.find_layouts.FindLayout.{FindLayout}
use Rattle.commit_desk.specs.FindLayouts.{AreFindLayouts, IsFindLayout}
use Rattle.commit_desk.specs.Judging.{AreGivenWhere, GiveAllIn, answer_where}
use Rattle.commit_desk.specs.Passes.{IsFinding, IsResting}
use Rattle.commit_desk.specs.Resolving.{CanGoOn}
use Rattle.engine.specs.Passes.{PassView, view_of}
use Rattle.engine.specs.declared.search.Search.{Search}
use Rattle.slice_recycler.specs.Turns.{IsTurn}
use Rattle.slice_rule.specs.Pools.{PoolId}
use Rattle.slice_rule.specs.Seats.{PassState}

-- the last event that the pass has seen began its find of this query, after these events
abbrev pub IsBegunAt : PassView → List Event → List ℕ → Type 0
IsBegunAt pass earlier query = pass.front ≡ earlier ++ event.Find pass.number query ∷ []

-- the last event that the pass has seen began its find
pub record HasJustBegun (pass : PassState) : Type 0 where
  pub earlier : List Event
  pub query : List ℕ
  pub at : IsBegunAt (view_of pass) earlier query

-- the pass has a find open, which the last event that it has seen began, and by these layouts its slices are read; the adds and moves
-- before it have their bits
pub record IsJustFinding (pool : PoolId) (token : Token) (pass : PassState) (layouts : List FindLayout) : Type 0 where
  pub finding : IsFinding pool token pass
  pub begun : HasJustBegun pass
  pub laid : (begun : HasToken pass.front pass.number token.opened_at) → AreFindLayouts pool begun.earlier token layouts
  pub sound : (begun : HasToken pass.front pass.number token.opened_at) → IsSound pool.config begun.earlier

-- and it looks for the words of its query, and for nothing else
pub record IsScanFor (pool : PoolId) (pass : PassState) (token : Token) (search : Search) (layouts : List FindLayout) : Type 0 where
  pub just : IsJustFinding pool token pass layouts
  pub of_query : (begun : HasToken pass.front pass.number token.opened_at) → AreWordsOf search.words begun.query
  pub no_residue : search.residue.items ≡ []

-- these are the numbers of the documents that pass the test, of those that were live before the find that the pass has just begun
abbrev pub IsAnswerWhere : (List ℕ → Bool) → PassState → List ℕ → Type 0
IsAnswerWhere test pass ids = (earlier : List Event) (query : List ℕ) → IsBegunAt (view_of pass) earlier query → ids ≡ answer_where earlier test

-- the pass has a find open, of whose slices the entry has some, with their layout before the find; the adds and moves before it have their
-- bits
pub record CanLookIn (pool : PoolId) (pass : PassState) (token : Token) (entry : FindLayout) : Type 0 where
  pub finding : IsFinding pool token pass
  pub among : (slice : ℕ) → Contains entry.slices slice → Contains token.slices slice
  pub laid : (begun : HasToken pass.front pass.number token.opened_at) → IsFindLayout pool begun.earlier entry
  pub sound : (begun : HasToken pass.front pass.number token.opened_at) → IsSound pool.config begun.earlier

-- The candidates were looked at by the history before the find, whatever came since: what they give by the test comes after what was found
-- before.
abbrev pub FindsIn : (List ℕ → Bool) → PassState → Token → List (ℕ × ℕ) → List (ℕ × ℕ) → List (ℕ × ℕ) → Type 0
FindsIn test pass token candidates before after =
    (begun : HasToken pass.front pass.number token.opened_at) → (more : List (ℕ × ℕ)) × AreGivenWhere begun.earlier test candidates more
    × (after ≡ before ++ more)

-- so were some candidates in these slices, each once; and each document that was live there and is to be given stands in the column of one
pub record AddsFound (test : List ℕ → Bool) (pass : PassState) (token : Token) (slices : List ℕ) (before after : List (ℕ × ℕ)) : Type 0 where
  pub candidates : List (ℕ × ℕ)
  pub each_once : AllPairs (λ (candidate other : ℕ × ℕ). candidate ≡ other → ⊥) candidates
  pub in_slices : (candidate : ℕ × ℕ) → Contains candidates candidate → Contains slices candidate.0
  pub finds : FindsIn test pass token candidates before after
  pub all : (begun : HasToken pass.front pass.number token.opened_at) → GiveAllIn begun.earlier test slices candidates

-- the slice is one of those that these entries have
abbrev pub IsLeft : List FindLayout → ℕ → Type 0
IsLeft left slice = (entry : FindLayout) × Contains left entry × Contains entry.slices slice

-- What a find has found where these entries are left: what candidates in its other slices give, each once; and each document that was live
-- there before the find and is to be given stands in the column of one of them.
pub record IsFoundBut (test : List ℕ → Bool) (pass : PassState) (token : Token) (left : List FindLayout) (found : List (ℕ × ℕ)) : Type 0 where
  pub candidates : List (ℕ × ℕ)
  pub each_once : AllPairs (λ (candidate other : ℕ × ℕ). candidate ≡ other → ⊥) candidates
  pub elsewhere : (candidate : ℕ × ℕ) → Contains candidates candidate → IsLeft left candidate.0 → ⊥
  pub given : (begun : HasToken pass.front pass.number token.opened_at) → AreGivenWhere begun.earlier test candidates found
  pub all : (begun : HasToken pass.front pass.number token.opened_at) (slice column : ℕ) (document : Document) (since : ℕ) → Contains token.slices slice
      → IsLiveOn begun.earlier slice column document since → test document.text ≡ true → IsLeft left slice ⊎ Contains candidates (slice, column)

-- A turn of a find which doesn't end it keeps its token, and comes to where the find may go on. That is a later candidate where any is left;
-- and one is left where no other slices are.
pub record ComesTo (token : Token) (candidates : List (ℕ × ℕ)) (last : Bool) (from : ℕ) (found : FoundState) (next : Token × ℕ) : Type 0 where
  pub same : next.0 ≡ token
  pub can : CanGoOn candidates found next.1
  pub further : next.1 < length candidates → from < next.1
  pub more : last ≡ true → next.1 < length candidates

-- how many candidates are looked at after a turn
abbrev pub end_of_turn : List (ℕ × ℕ) → Option (Token × ℕ) → ℕ
end_of_turn candidates None = length candidates
end_of_turn candidates (Some next) = next.1

-- the events of a turn that looks at candidates: one that hands no token back ends the find
abbrev pub events_of_turn : ℕ → Option (Token × ℕ) → List Event
events_of_turn pass None = event.End pass ∷ []
events_of_turn pass (Some next) = []

-- the turn that begins a find
abbrev pub FindBegins : Limits → ℕ → List ℕ → List Event → List Event → Type 0
FindBegins limits pass query before after = IsTurn pass before after (TakesCalls limits.events) (event.Find pass query ∷ [])

-- the turn that ends it
abbrev pub FindEnds : ℕ → List Event → List Event → Type 0
FindEnds pass before after = IsTurn pass before after (λ history. Unit {0}) (event.End pass ∷ [])

-- the pass has ended its find
abbrev pub HasEndedFind : PoolId → PassState → PassState → Type 0
HasEndedFind pool before after = FindEnds before.number before.front after.front × IsResting pool after

-- After some of its slices, which are not the last ones, a find is open still, while others may have made events; after the last ones it is
-- ended.
abbrev pub IsOpenOrEnded : PoolId → Token → Bool → PassState → PassState → Option Token → Type 0
IsOpenOrEnded pool token last before after (Some kept) =
    (last ≡ false) × (kept ≡ token) × IsFinding pool token after × IsFrontOf before.number before.front after.front
IsOpenOrEnded pool token last before after None = (last ≡ true) × HasEndedFind pool before after

-- a find that began and ended
pub record EndedTurns (limits : Limits) (pass : ℕ) (query : List ℕ) (before after : List Event) : Type 0 where
  pub middle : List Event
  pub begun : FindBegins limits pass query before middle
  pub ended : FindEnds pass middle after

-- and is answered by what was live when it began
pub record FoundTurns (limits : Limits) (pass : ℕ) (query : List ℕ) (before after : List Event) (ids : List ℕ) : Type 0 where
  pub turns : EndedTurns limits pass query before after
  pub found : ids ≡ answer turns.begun.earlier query

-- a find that the desk refused: there was no memory for the layouts of its slices, or no call is taken any more; and it made no event
abbrev pub RefusedTurn : Limits → ℕ → List Event → List Event → FindFault → Type 0
RefusedTurn limits pass before after find.Memory = IsTurn pass before after (TakesCalls limits.events) []
RefusedTurn limits pass before after (find.Spent events) = IsTurn pass before after (λ history. IsSpentAt limits.events history events) []

-- a find that did not begin: the desk refused it, or there was no memory for its words, and nothing was done
abbrev pub RefusedTurns : Limits → ℕ → List Event → List Event → FindFault → Type 0
RefusedTurns limits pass before after find.Memory = (before ≡ after) ⊎ RefusedTurn limits pass before after find.Memory
RefusedTurns limits pass before after (find.Spent events) = RefusedTurn limits pass before after (find.Spent events)

-- A find is answered, or did not begin, or found no memory after it had begun.
abbrev pub FindTurns : Limits → ℕ → List ℕ → List Event → List Event → Result (List ℕ) FindFault → Type 0
FindTurns limits pass query before after (Ok ids) = FoundTurns limits pass query before after ids
FindTurns limits pass query before after (Err find.Memory) = RefusedTurns limits pass before after find.Memory ⊎ EndedTurns limits pass query before after
FindTurns limits pass query before after (Err (find.Spent events)) = RefusedTurns limits pass before after (find.Spent events)
