-- The journal of a desk: the last commits of a history, as many as it keeps.
use Rattle.std.specs.Prelude.{◌≡◌, ℕ, ◌+◌, ◌-◌, ◌≤◌, List, [], ◌∷◌, ◌++◌, length}
use Rattle.circular_buffer.specs.Buffer.{keep_last}
use Rattle.funnel_model.specs.declared.commit.Commit.{Commit}
use Rattle.funnel_model.specs.declared.event.Event.{Event}
use Rattle.funnel_model.specs.History.{base, commits_after, live, place}

-- so many commits are kept at most, there were so many, after which so many documents are live, and these are kept
pub record JournalState : Type 0 where
  pub most : ℕ
  pub place : ℕ
  pub documents : ℕ
  pub kept : List Commit

-- how many there were before those that are kept
abbrev pub base_of : JournalState → ℕ
base_of journal = journal.place - length journal.kept

-- the journal with one more commit, after which so many documents are live
abbrev pub with_commit : JournalState → Commit → ℕ → JournalState
with_commit journal commit documents =
    record journal { place = journal.place + 1; documents = documents; kept = keep_last journal.most (journal.kept ++ commit ∷ []) }

-- no more commits are kept than there were and than there may be, and there is room for a list of them
pub record HasJournalRoom (journal : JournalState) (room : List Commit) (capacity : ℕ) : Type 0 where
  pub counted : length journal.kept ≤ journal.place
  pub few : length journal.kept ≤ journal.most
  pub empty : room ≡ []
  pub enough : journal.most ≤ capacity

-- it is the journal of the history, of which it keeps the last commits, so many at most, and counts the live documents
pub record IsJournalOf (most : ℕ) (history : List Event) (journal : JournalState) : Type 0 where
  pub most_are : journal.most ≡ most
  pub place_is : journal.place ≡ place history
  pub documents_are : journal.documents ≡ length (live history)
  pub last : journal.kept ≡ commits_after history (base most history)
