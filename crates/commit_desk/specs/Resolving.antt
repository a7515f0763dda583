-- What a find finds of its candidates, turn by turn. It is told by the history before the find, which later events don't change.
use Rattle.std.specs.Prelude.{◌≡◌, ◌⊎◌, ℕ, ◌+◌, ◌≤◌, Bool, true, List, ◌++◌, length, Contains}
use Rattle.std.specs.List.{slice_range}
use Rattle.document_store.specs.Finding.{EndsTurn, FoundState}
use Rattle.funnel_model.specs.declared.config.Config.{Config}
use Rattle.funnel_model.specs.declared.event.Event.{Event}
use Rattle.funnel_model.specs.History.{Document}
use Rattle.funnel_model.specs.Slices.{IsLiveOn}
use Rattle.row_layout.specs.Owners.{is_exact}
use Rattle.commit_desk.specs.Judging.{AreGivenWhere}

-- the rest of some words, which is looked for in the documents: some of them, of which each other one is exact under the configuration
pub record IsRestOf (config : Config) (words rest : List (List ℕ)) : Type 0 where
  pub part : (word : List ℕ) → Contains rest word → Contains words word
  pub others_exact : (word : List ℕ) → Contains words word → Contains rest word ⊎ (is_exact config word ≡ true)

-- so many words are looked for in each candidate: as many as in each document, where one was live in the column before the find, and else
-- none
pub record AreLookedFor (earlier : List Event) (cost : ℕ) (candidates : List (ℕ × ℕ)) (looked : ℕ × ℕ → ℕ) : Type 0 where
  pub where_live : (candidate : ℕ × ℕ) → Contains candidates candidate → (document : Document) (since : ℕ) → IsLiveOn earlier candidate.0 candidate.1 document since
      → looked candidate ≡ cost
  pub elsewhere : (candidate : ℕ × ℕ) → Contains candidates candidate
      → ((document : Document) (since : ℕ) → IsLiveOn earlier candidate.0 candidate.1 document since → ⊥) → looked candidate ≡ 0

-- a turn from one candidate up to another ends where it may, by the words that it looks for: so many in each document
abbrev pub LooksUpTo : List Event → ℕ → List (ℕ × ℕ) → ℕ → ℕ → Type 0
LooksUpTo earlier cost candidates from to = (looked : ℕ × ℕ → ℕ) × AreLookedFor earlier cost candidates looked × EndsTurn candidates looked from to

-- A turn of a find that keeps documents by a test, from one candidate up to another, by the history before the find: what its candidates
-- give comes after what was found before, and it ends where it may.
pub record FindsUpTo (earlier : List Event) (test : List ℕ → Bool) (cost : ℕ) (candidates : List (ℕ × ℕ)) (from to : ℕ) (before after : List (ℕ × ℕ)) : Type 0 where
  pub more : List (ℕ × ℕ)
  pub given : AreGivenWhere earlier test (slice_range candidates from to) more
  pub found : after ≡ before ++ more
  pub turn : LooksUpTo earlier cost candidates from to

-- a find may go on from this candidate, or is at the end of them, and there is room for what is left
pub record CanGoOn (candidates : List (ℕ × ℕ)) (found : FoundState) (from : ℕ) : Type 0 where
  pub within : from ≤ length candidates
  pub room : length candidates ≤ found.room + from
