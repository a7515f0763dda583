-- What holds of what a desk keeps, whatever the history.
use Rattle.std.specs.Prelude.{◌≡◌, ℕ, ◌*◌, ◌<◌, ◌≤◌, ◌↔◌, Bool, true, false, List, [], ◌++◌, length, replicate, sum_by, Contains, Ok, Err, None}
use Rattle.std.specs.List.{slice_range}
use mathlib.Core.List.{IsPrefix}
use Rattle.document_store.specs.Documents.{Parts}
use Rattle.document_store.specs.Entries.{column_of}
use Rattle.document_store.specs.declared.judging.TheConstants.{LEAST_COST}
use Rattle.document_store.specs.Slots.{free_slot}
use Rattle.funnel_model.specs.declared.config.Config.{Config}
use Rattle.funnel_model.specs.declared.event.Event.{Event}
use Rattle.funnel_model.specs.declared.bit_list.Bit.{Bit}
use Rattle.funnel_model.specs.declared.claim.Claim.{Claim}
use Rattle.funnel_model.specs.declared.claim.Token.{Token}
use Rattle.funnel_model.specs.Expressions.{Tree, answer_by, keeps}
use Rattle.funnel_model.specs.History.{Document, answer, base, commits_after, live, place}
use Rattle.funnel_model.specs.Legal.{IsLegal, Limits}
use Rattle.funnel_model.specs.Configuration.{IsInRange}
use Rattle.funnel_model.specs.Searches.{Searches, has_all}
use Rattle.funnel_model.specs.Sizes.{columns_of_slice, words_of_slice}
use Rattle.funnel_model.specs.Slices.{IsInUse, IsLiveOn}
use Rattle.funnel_model.specs.Tokens.{HasToken}
use Rattle.funnel_model.specs.Tunings.{treat}
use Rattle.funnel_model.specs.Words.{meets, words}
use Rattle.row_layout.specs.declared.row.Row.{Row}
use Rattle.row_layout.specs.DocumentBits.{bit_of_row}
use Rattle.row_layout.specs.Layouts.{own_layout}
use Rattle.row_layout.specs.Owners.{is_exact}
use Rattle.row_layout.specs.Rows.{rows_of_word}
use Rattle.row_layout.specs.Sound.{IsSound}
use Rattle.slice_rule.specs.declared.view.Fact.{Fact}
use Rattle.slice_rule.specs.Seats.{PassState, WasReadUnder}
use Rattle.slice_stages.specs.Stages.{empty_stage}
use Rattle.commit_desk.specs.Desks.{DeskState, Makes}
use Rattle.commit_desk.specs.Answers.{events_of_clear, events_of_commit, events_of_delete, events_of_take}
use Rattle.commit_desk.specs.declared.answers.AddFault.{AddFault}
use Rattle.commit_desk.specs.declared.answers.ClearRefusal.{ClearRefusal}
use Rattle.commit_desk.specs.declared.answers.CommitFault.{CommitFault}
use Rattle.commit_desk.specs.declared.answers.DeleteFault.{DeleteFault}
use Rattle.commit_desk.specs.declared.answers.NotTaken.TheVariants as untaken
use Rattle.commit_desk.specs.declared.answers.TakenMove.{TakenMove}
use Rattle.commit_desk.specs.declared.answers.Taken.TheVariants as taken
use Rattle.commit_desk.specs.declared.look.Look.{Look}
use Rattle.commit_desk.specs.FindLayouts.{AreOfTreatment}
use Rattle.commit_desk.specs.Judging.{GiveAllIn, answer_where}
use Rattle.commit_desk.specs.Kept.{Books, AreBooksOf}
use Rattle.commit_desk.specs.Layouts.{AreFirst, SuitsOpening}
use Rattle.commit_desk.specs.Moving.{AnswersTakeMove, HoldsLook, IsNextLook, IsThereStill, LooksState, MayTakeSome, document_of}
use Rattle.commit_desk.specs.Resolving.{AreLookedFor, LooksUpTo, IsRestOf}
use Rattle.commit_desk.specs.Scans.{AreScannedFor, keeps_text}

-- nothing is kept yet: every column is free, no number is live, no find runs, no column of a slice is claimed, and each slice has the
-- layout of the opening configuration
pub record AreNew (config : Config) (limits : Limits) (books : Books) : Type 0 where
  pub slices : books.slices ≡ limits.slices
  pub columns : books.columns ≡ limits.columns
  pub events : books.events ≡ 0
  pub journal : books.journal ≡ record { most = limits.commits; place = 0; documents = 0; kept = [] }
  pub table_slices : books.table.slices ≡ limits.slices
  pub table_columns : books.table.columns ≡ limits.columns
  pub free : books.table.slots ≡ replicate (limits.slices * limits.columns) free_slot
  pub all_there : books.table.out ≡ replicate limits.slices false
  pub none_live : (id : ℕ) → column_of books.live id ≡ None
  pub live_slices : books.live.slices ≡ limits.slices
  pub live_columns : books.live.columns ≡ limits.columns
  pub no_token : books.tokens ≡ replicate limits.passes None
  pub stage_columns : books.stages.columns ≡ limits.columns
  pub empty : books.stages.stages ≡ replicate limits.slices empty_stage
  pub mark : books.stages.mark ≡ 0
  pub layouts : AreFirst limits.slices (own_layout config) books.layouts

-- that is what a desk keeps of the history without events
abbrev pub NewDesksAreKept : Type 0
NewDesksAreKept =
    (config : Config) (limits : Limits) (most : ℕ) (books : Books) → IsInRange config → 1 ≤ limits.columns → AreNew config limits books
    → AreBooksOf config limits most [] books

-- what is kept is that of one number of commits, of one list of the last of them, and of one number of events
abbrev pub DesksHaveTheirCommits : Type 0
DesksHaveTheirCommits =
    (config : Config) (limits : Limits) (most : ℕ) (history other : List Event) (books : Books) → AreBooksOf config limits most history books → AreBooksOf config limits most other books
    → (place history ≡ place other) × (commits_after history (base limits.commits history) ≡ commits_after other (base limits.commits other)) × (length history ≡ length other)

-- the events leave the live documents as they are
abbrev pub KeepsDocuments : List Event → List Event → Type 0
KeepsDocuments history events = live (history ++ events) ≡ live history

-- after a refused call the live documents are as before its event: an add or a put that is refused at its take, an add that is dropped
-- at its commit, a delete and a recycle
pub record RefusedCallsKeepDocuments : Type 0 where
  pub take : (history : List Event) (pass : ℕ) (replaces : Bool) (id : ℕ) (text : List ℕ) (fault : AddFault) →
      KeepsDocuments history (events_of_take pass replaces id text (taken.Refused fault))
  pub commit : (history : List Event) (pass id : ℕ) (text : List ℕ) (claim : Claim) (bits : List Bit) (fault : CommitFault) →
      KeepsDocuments history (events_of_commit pass id text claim bits (Err fault))
  pub delete : (history : List Event) (pass id : ℕ) (fault : DeleteFault) → KeepsDocuments history (events_of_delete pass id (Err fault))
  pub clear : (history : List Event) (pass : ℕ) (fault : ClearRefusal) → KeepsDocuments history (events_of_clear pass (Err fault))

-- one document is to be moved next, and it stands in one column, where one event put it
abbrev pub NextLookIsOne : Type 0
NextLookIsOne =
    (reserve most : ℕ) (limits : Limits) (looks : LooksState) (history : List Event) (replaces : Bool) (id slice column other at : ℕ)
    (document another : Document) (since from : ℕ) → IsLegal limits history → IsNextLook reserve most limits looks history replaces id slice column document since →
    IsNextLook reserve most limits looks history replaces id other at another from → (slice ≡ other) × (column ≡ at) × (document ≡ another) × (since ≡ from)

-- and one column is taken for it
abbrev pub TakeOfMoveIsOne : Type 0
TakeOfMoveIsOne = (most : ℕ) (limits : Limits) (history : List Event) (pass : ℕ) (look : Look) (taken other : TakenMove) →
    AnswersTakeMove most limits history pass look (Ok taken) → AnswersTakeMove most limits history pass look (Ok other) → (taken.claim ≡ other.claim) × (taken.look ≡ other.look)

-- or none, where none may be
abbrev pub TakeOfMoveHasCause : Type 0
TakeOfMoveHasCause = (most : ℕ) (limits : Limits) (history : List Event) (pass : ℕ) (look : Look) (doc : Parts) →
    AnswersTakeMove most limits history pass look (Err (untaken.NoColumn doc)) → MayTakeSome most limits history pass look → ⊥

-- so it is with both turns
abbrev pub MovesAreOne : Type 0
MovesAreOne = NextLookIsOne × TakeOfMoveIsOne × TakeOfMoveHasCause

-- what a pass looked at is live with the text that it saw, in each history in which it is still there
abbrev pub MovesKeepTexts : Type 0
MovesKeepTexts = (limits : Limits) (history : List Event) (seat : PassState) (look : Look) → IsLegal limits history → IsPrefix seat.front history →
    HoldsLook seat look → IsThereStill history look → Contains (live history) (document_of look)

-- what a pass did itself is the same before and after a call
abbrev pub CallsDoNothingElse : Type 0
CallsDoNothingElse = (events : List Event) (before after : DeskState) (seat next : PassState) → Makes events before after seat next →
    (done : Fact) → Contains next.own done ↔ Contains seat.own done

-- the answer of a find is that of a test: whether a text meets the query, or whether the expression keeps it
pub record AnswersAreByTests : Type 0 where
  pub query : (history : List Event) (query : List ℕ) → answer history query ≡ answer_where history (λ text. meets text query)
  pub expression : (history : List Event) (expr : Tree) → answer_by history expr ≡ answer_where history (keeps expr)

-- a turn in which each document counts as 8 words at least decides 32 documents at most, each of which counts as one here
abbrev pub TurnsJudgeFewDocuments : Type 0
TurnsJudgeFewDocuments =
    (earlier : List Event) (cost : ℕ) (candidates : List (ℕ × ℕ)) (from to : ℕ) (documents : ℕ × ℕ → ℕ) → LEAST_COST ≤ cost → LooksUpTo earlier cost candidates from to →
    AreLookedFor earlier 1 candidates documents → sum_by documents (slice_range candidates from to) ≤ 32

-- A pass has a find open with this number, which began after these events.
pub record HasBegunAfter (earlier : List Event) (pass : PassState) (opened_at : ℕ) : Type 0 where
  pub begun : HasToken pass.front pass.number opened_at
  pub after : begun.earlier ≡ earlier

-- A pass has a find open that began after these events, and read as set, under its number, the bit of a word's row at a column of a slice
-- that was in use then; the word is exact under the slice's treatment.
pub record HasReadWord (limits : Limits) (opening : Config) (earlier : List Event) (pass : PassState) (opened_at slice column : ℕ) (word : List ℕ) : Type 0 where
  pub limits_are : pass.pool.limits ≡ limits
  pub opening_is : pass.pool.config ≡ opening
  pub find : HasBegunAfter earlier pass opened_at
  pub in_use : IsInUse limits.columns slice earlier
  pub in_engine : column < limits.columns
  pub in_slice : column < columns_of_slice (treat opening slice earlier)
  pub in_range : IsInRange (treat opening slice earlier)
  pub fits : words_of_slice (treat opening slice earlier) ≤ words_of_slice opening
  pub room : limits.slice_words ≡ words_of_slice opening
  pub exact : is_exact (treat opening slice earlier) word ≡ true
  pub row : Row
  pub its_row : Contains (rows_of_word (treat opening slice earlier) word) row
  pub read : WasReadUnder pass opened_at (bit_of_row (words_of_slice opening) slice column row)

-- The document that was live in such a column as the find began has the word: the bit of a private row is no false positive.
abbrev pub ReadBitsTellWords : Type 0
ReadBitsTellWords =
    (limits : Limits) (opening : Config) (earlier : List Event) (pass : PassState) (opened_at slice column : ℕ) (word : List ℕ) (document : Document) (since : ℕ) →
    IsLegal limits pass.front → IsSound opening earlier → HasReadWord limits opening earlier pass opened_at slice column word →
    IsLiveOn earlier slice column document since → Contains (words document.text) word

-- A pass has a find open that began after these events, and slices of its token were in use then, with this configuration, which the engine
-- may have, as their treatment.
pub record IsScanAfter (limits : Limits) (opening config : Config) (earlier : List Event) (pass : PassState) (token : Token) : Type 0 where
  pub limits_are : pass.pool.limits ≡ limits
  pub opening_is : pass.pool.config ≡ opening
  pub find : HasBegunAfter earlier pass token.opened_at
  pub in_use : (slice : ℕ) → Contains token.slices slice → IsInUse limits.columns slice earlier
  pub treated : AreOfTreatment opening earlier config token.slices
  pub suits : SuitsOpening opening config
  pub columns_are : limits.columns ≡ columns_of_slice config
  pub room : limits.slice_words ≡ words_of_slice opening

-- Where such slices were scanned for a search, each document that was live there as the find began and whose text the search keeps stands
-- in the column of a candidate.
abbrev pub ScansMissNone : Type 0
ScansMissNone =
    (limits : Limits) (opening config : Config) (earlier : List Event) (pass : PassState) (token : Token) (words : List (List ℕ)) (residue : Searches (List (List ℕ)))
    (sure unsure : List (ℕ × ℕ)) → IsLegal limits pass.front → IsSound opening earlier → IsScanAfter limits opening config earlier pass token →
    AreScannedFor config pass token words residue sure unsure → GiveAllIn earlier (keeps_text words residue) token.slices (sure ++ unsure)

-- And where a document was live in the column of a candidate, bits tell what isn't looked for: by the rest of the required words alone
-- where the search is sure, and by that and what else is asked where it is unsure, the document is kept exactly where the search keeps it.
abbrev pub ScansTellTexts : Type 0
ScansTellTexts =
    (limits : Limits) (opening config : Config) (earlier : List Event) (pass : PassState) (token : Token) (words rest : List (List ℕ)) (residue : Searches (List (List ℕ)))
    (sure unsure : List (ℕ × ℕ)) (slice column : ℕ) (document : Document) (since : ℕ) → IsLegal limits pass.front → IsSound opening earlier →
    IsScanAfter limits opening config earlier pass token → AreScannedFor config pass token words residue sure unsure → IsRestOf config words rest →
    IsLiveOn earlier slice column document since →
    (Contains sure (slice, column) → has_all document.text rest ≡ keeps_text words residue document.text)
    × (Contains unsure (slice, column) → keeps_text rest residue document.text ≡ keeps_text words residue document.text)
