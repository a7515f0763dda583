-- What each call of the desk answers, after the events of a history and in the order of its checks, and the events that it makes.
use Rattle.std.specs.Prelude.{◌≡◌, ℕ, ◌+◌, ◌<◌, ◌≤◌, ◌↔◌, ◌⊎◌, Bool, true, false, List, [], ◌∷◌, length, Option, None, Result, Ok, Err, Some, Contains}
use Rattle.funnel_model.specs.Blocks.{AreBlocks, IsLowestGuard}
use Rattle.funnel_model.specs.declared.bit_list.Bit.{Bit}
use Rattle.funnel_model.specs.declared.call.Call.{Call}
use Rattle.funnel_model.specs.declared.call.Call.TheVariants as call
use Rattle.funnel_model.specs.declared.claim.Claim.{Claim}
use Rattle.funnel_model.specs.declared.claim.Token.{Token}
use Rattle.funnel_model.specs.declared.commit.Commit.{Commit}
use Rattle.funnel_model.specs.declared.config.Config.{Config}
use Rattle.funnel_model.specs.declared.event.Event.{Event}
use Rattle.funnel_model.specs.declared.event.Event.TheVariants as event
use Rattle.funnel_model.specs.declared.stats.Stats.{Stats}
use Rattle.funnel_model.specs.History.{Document, base, commits_after, document_with, is_live, live_place, place}
use Rattle.funnel_model.specs.Legal.{HasRoom, IsFull, IsIdle, Limits, MayClear, MayTake, NoneCanClear}
use Rattle.funnel_model.specs.Numbers.{AreStats}
use Rattle.funnel_model.specs.Slices.{IsInUse, IsRetired, is_clearing}
use Rattle.funnel_model.specs.Steps.{NoneRetired}
use Rattle.funnel_model.specs.Tunings.{tunings}
use Rattle.slice_rule.specs.Pools.{PoolId}
use Rattle.commit_desk.specs.declared.answers.AddFault.{AddFault}
use Rattle.commit_desk.specs.declared.answers.AddFault.TheVariants as add
use Rattle.commit_desk.specs.declared.answers.ClearRefusal.{ClearRefusal}
use Rattle.commit_desk.specs.declared.answers.ClearRefusal.TheVariants as clear
use Rattle.commit_desk.specs.declared.answers.CommitFault.{CommitFault}
use Rattle.commit_desk.specs.declared.answers.CommitFault.TheVariants as commit
use Rattle.commit_desk.specs.declared.answers.DeleteFault.{DeleteFault}
use Rattle.commit_desk.specs.declared.answers.DeleteFault.TheVariants as delete
use Rattle.commit_desk.specs.declared.answers.FindFault.{FindFault}
use Rattle.commit_desk.specs.declared.answers.FindFault.TheVariants as find
use Rattle.commit_desk.specs.declared.answers.JournalFault.{JournalFault}
use Rattle.commit_desk.specs.declared.answers.JournalFault.TheVariants as journal
use Rattle.commit_desk.specs.declared.answers.Put.{Put}
use Rattle.commit_desk.specs.declared.answers.Put.TheVariants as put
use Rattle.commit_desk.specs.declared.answers.Spent.{Spent}
use Rattle.commit_desk.specs.declared.answers.Taken.{Taken}
use Rattle.commit_desk.specs.declared.answers.Taken.TheVariants as taken
use Rattle.commit_desk.specs.declared.answers.TextRead.{TextRead}
use Rattle.commit_desk.specs.declared.answers.TextRead.TheVariants as read
use Rattle.commit_desk.specs.declared.answers.ToClear.{ToClear}
use Rattle.commit_desk.specs.Layouts.{HandsBackOld}

-- In these, `most` is the number of events from which on no call is taken. Calls are taken where the history has fewer.
abbrev pub TakesCalls : ℕ → List Event → Type 0
TakesCalls most history = length history < most

-- no call is taken any more, and this is the number of events
pub record IsSpentAt (most : ℕ) (history : List Event) (events : ℕ) : Type 0 where
  pub many : most ≤ length history
  pub count : events ≡ length history

-- the number is live, and was added at this place
pub record IsPresent (history : List Event) (id added : ℕ) : Type 0 where
  pub live : live_place id history ≡ Some added

-- the place of the live document that keeps one with this number out, unless that is to replace it
abbrev pub in_the_way : Bool → ℕ → List Event → Option ℕ
in_the_way true id history = None
in_the_way false id history = live_place id history

-- nothing but want of room keeps a document with this number out: first calls are taken, and then the number is not live, unless the
-- document replaces the live one
pub record MayEnter (most : ℕ) (history : List Event) (replaces : Bool) (id : ℕ) : Type 0 where
  pub takes_calls : TakesCalls most history
  pub absent : replaces ≡ false → is_live id history ≡ false

-- and the pass isn't in the middle of a call
pub record MayAdd (most : ℕ) (history : List Event) (pass : ℕ) (replaces : Bool) (id : ℕ) : Type 0 where
  pub idle : IsIdle pass history
  pub enters : MayEnter most history replaces id

-- and no slice has room for it
pub record MayMakeRoom (most : ℕ) (limits : Limits) (history : List Event) (pass : ℕ) (replaces : Bool) (id : ℕ) : Type 0 where
  pub adds : MayAdd most history pass replaces id
  pub no_room : (slice : ℕ) → slice < limits.slices → HasRoom limits.columns history slice → ⊥

-- why an add, or a put, which replaces, is refused: each reason yields to those before it, and where a column or a slice could be had,
-- memory may be wanting for its layout; a put is never refused for a live number
abbrev pub RefusesAdd : ℕ → Limits → List Event → Bool → ℕ → AddFault → Type 0
RefusesAdd most limits history replaces id (add.Spent events) = IsSpentAt most history events
RefusesAdd most limits history replaces id (add.Present added) = TakesCalls most history × IsPresent history id added × (replaces ≡ false)
RefusesAdd most limits history replaces id (add.Full blocks) = MayEnter most history replaces id × IsFull limits history × AreBlocks limits history blocks
RefusesAdd most limits history replaces id add.Memory = MayEnter most history replaces id × (IsFull limits history → ⊥)

-- a slice is being cleared
abbrev pub IsBeingCleared : Limits → List Event → ℕ → Type 0
IsBeingCleared limits history slice = (slice < limits.slices) × (is_clearing slice history ≡ true)

-- and none is
abbrev pub NoneIsCleared : Limits → List Event → Type 0
NoneIsCleared limits history = (slice : ℕ) → IsBeingCleared limits history slice → ⊥

-- an add or a put takes the next column of the lowest slice with room; where none has room, it is to clear the lowest slice that can be cleared,
-- with as many old slots as a slice has columns; it waits only where the engine is full and this slice is being cleared; else it is refused
abbrev pub AnswersTake : ℕ → Limits → List Event → ℕ → Bool → ℕ → Taken → Type 0
AnswersTake most limits history pass replaces id (taken.Claim claim layout) =
    MayEnter most history replaces id × MayTake limits history pass claim.slice claim.column
AnswersTake most limits history pass replaces id (taken.Clear work layout) =
    MayEnter most history replaces id × ((slice : ℕ) → slice < limits.slices → HasRoom limits.columns history slice → ⊥)
    × MayClear limits history pass work.job.slice × (work.slots ≡ limits.columns)
AnswersTake most limits history pass replaces id (taken.Wait slice) =
    MayEnter most history replaces id × IsFull limits history × IsBeingCleared limits history slice
AnswersTake most limits history pass replaces id (taken.Refused fault) = RefusesAdd most limits history replaces id fault

-- it doesn't wait where this is its last look; and at any other it is refused as full only where no slice is being cleared
abbrev pub WaitsUnlessLast : Limits → List Event → Bool → Taken → Type 0
WaitsUnlessLast limits history last (taken.Wait slice) = last ≡ false
WaitsUnlessLast limits history last (taken.Refused (add.Full blocks)) = (last ≡ true) ⊎ NoneIsCleared limits history
WaitsUnlessLast limits history last answer = Unit {0}

-- an add or a put is answered so at a look, which may be its last
pub record AnswersLastTake (most : ℕ) (limits : Limits) (history : List Event) (pass : ℕ) (replaces : Bool) (id : ℕ) (last : Bool) (answer : Taken) : Type 0 where
  pub answers : AnswersTake most limits history pass replaces id answer
  pub waits : WaitsUnlessLast limits history last answer

-- the call of a document that is put, which replaces, or added
abbrev pub call_asked : Bool → ℕ → List ℕ → Call
call_asked true id text = call.Put id text
call_asked false id text = call.Add id text

-- and these are its events
abbrev pub events_of_take : ℕ → Bool → ℕ → List ℕ → Taken → List Event
events_of_take pass replaces id text (taken.Claim claim layout) = event.Take pass claim.slice claim.column ∷ []
events_of_take pass replaces id text (taken.Clear work layout) = event.Clear pass work.job.slice ∷ []
events_of_take pass replaces id text (taken.Wait slice) = []
events_of_take pass replaces id text (taken.Refused (add.Spent events)) = []
events_of_take pass replaces id text (taken.Refused add.Memory) = []
events_of_take pass replaces id text (taken.Refused _) = event.No pass (call_asked replaces id text) ∷ []

-- the answer `Full` alone takes the room that a take was given: with any other it is as it was
abbrev pub LeavesRoom : {A : Type 0} → Taken → Option A → Option A → Type 0
LeavesRoom (taken.Refused (add.Full blocks)) before after = after ≡ None
LeavesRoom answer before after = after ≡ before

-- the events of a pass that opens a slice and takes its first column
abbrev pub events_of_opened_take : ℕ → ℕ → List Event
events_of_opened_take pass slice = event.Opened pass slice false ∷ event.Take pass slice 0 ∷ []

-- a document is added where its number is not live, and else dropped
abbrev pub AnswersCommit : List Event → ℕ → Result ℕ CommitFault → Type 0
AnswersCommit history id (Ok added) = (is_live id history ≡ false) × (added ≡ place history + 1)
AnswersCommit history id (Err (commit.Present added)) = IsPresent history id added

abbrev pub events_of_commit : ℕ → ℕ → List ℕ → Claim → List Bit → Result ℕ CommitFault → List Event
events_of_commit pass id text claim bits (Ok added) = event.Add pass id text claim.slice claim.column bits ∷ []
events_of_commit pass id text claim bits (Err fault) = event.Drop pass id text claim.slice claim.column ∷ []

-- a document is added where its number is not live, and else takes the place of the live one
abbrev pub AnswersPut : List Event → ℕ → Put → Type 0
AnswersPut history id (put.Added added) = (is_live id history ≡ false) × (added ≡ place history + 1)
AnswersPut history id (put.Replaced added) = (is_live id history ≡ true) × (added ≡ place history + 1)

-- a live document can be deleted now
pub record MayDeleteNow (most : ℕ) (history : List Event) (id : ℕ) : Type 0 where
  pub takes_calls : TakesCalls most history
  pub live : is_live id history ≡ true

-- a delete is refused first as spent, and then for a number that is not live
abbrev pub AnswersDelete : ℕ → List Event → ℕ → Result ℕ DeleteFault → Type 0
AnswersDelete most history id (Ok deleted) = MayDeleteNow most history id × (deleted ≡ place history + 1)
AnswersDelete most history id (Err (delete.Spent events)) = IsSpentAt most history events
AnswersDelete most history id (Err delete.Absent) = TakesCalls most history × (is_live id history ≡ false)

abbrev pub events_of_delete : ℕ → ℕ → Result ℕ DeleteFault → List Event
events_of_delete pass id (Ok deleted) = event.Del pass id ∷ []
events_of_delete pass id (Err (delete.Spent events)) = []
events_of_delete pass id (Err _) = event.No pass (call.Delete id) ∷ []

-- the slice is the lowest that is retired
pub record IsLowestRetired (limits : Limits) (history : List Event) (slice : ℕ) : Type 0 where
  pub in_range : slice < limits.slices
  pub retired : IsRetired limits.columns slice history
  pub lowest : (lower : ℕ) → lower < slice → IsRetired limits.columns lower history → ⊥

-- why no slice can be cleared, where none can
abbrev pub RefusesClear : Limits → List Event → ClearRefusal → Type 0
RefusesClear limits history clear.NoneRetired = NoneRetired limits history
RefusesClear limits history (clear.Guarded slice guard opened_at) = IsLowestRetired limits history slice × IsLowestGuard limits.columns history slice guard opened_at
RefusesClear limits history (clear.Spent events) = ⊥

-- a recycle is refused first as spent; then it clears the lowest slice that can be cleared, with as many old slots as a slice has
-- columns; where there is none it is refused because none is retired, or with the lowest that is, its lowest guarding pass and the number of that pass's find
abbrev pub AnswersClear : ℕ → Limits → List Event → ℕ → Result ToClear ClearRefusal → Type 0
AnswersClear most limits history pass (Ok work) = TakesCalls most history × MayClear limits history pass work.job.slice × (work.slots ≡ limits.columns)
AnswersClear most limits history pass (Err (clear.Spent events)) = IsSpentAt most history events
AnswersClear most limits history pass (Err fault) = TakesCalls most history × NoneCanClear limits history × RefusesClear limits history fault

abbrev pub events_of_clear : ℕ → Result ToClear ClearRefusal → List Event
events_of_clear pass (Ok work) = event.Clear pass work.job.slice ∷ []
events_of_clear pass (Err (clear.Spent events)) = []
events_of_clear pass (Err _) = event.No pass call.Recycle ∷ []

-- a slice to clear comes with as many old slots as it has columns, and with the layout of its older treatment, where no other slice has that
pub record IsClearWork (pool : PoolId) (history : List Event) (work : ToClear) : Type 0 where
  pub slots : work.slots ≡ pool.limits.columns
  pub old : HandsBackOld pool history work.job.slice work.old_layout

-- a place is the number of commits, unless the engine is spent
abbrev pub AnswersPlace : ℕ → List Event → Result ℕ Spent → Type 0
AnswersPlace most history (Ok count) = TakesCalls most history × (count ≡ place history)
AnswersPlace most history (Err spent) = IsSpentAt most history spent.events

abbrev pub events_of_place : ℕ → Result ℕ Spent → List Event
events_of_place pass (Ok count) = event.Read pass call.Place ∷ []
events_of_place pass (Err spent) = []

-- a journal has the commits after the first so many where all of them are kept, and is else told how many are not; unless the engine
-- is spent, or there was no memory for those that are kept
abbrev pub AnswersJournal : ℕ → Limits → List Event → ℕ → Result (List Commit) JournalFault → Type 0
AnswersJournal most limits history from (Ok told) = TakesCalls most history × (base limits.commits history ≤ from) × (told ≡ commits_after history from)
AnswersJournal most limits history from (Err (journal.Trimmed n)) = TakesCalls most history × (from < base limits.commits history) × (n ≡ base limits.commits history)
AnswersJournal most limits history from (Err (journal.Spent events)) = IsSpentAt most history events
AnswersJournal most limits history from (Err journal.Memory) = TakesCalls most history × (base limits.commits history ≤ from)

abbrev pub events_of_journal : ℕ → ℕ → Result (List Commit) JournalFault → List Event
events_of_journal pass from (Ok told) = event.Read pass (call.Journal from) ∷ []
events_of_journal pass from (Err (journal.Trimmed n)) = event.Read pass (call.Journal from) ∷ []
events_of_journal pass from (Err fault) = []

-- a get is told of the live document with its number, if there is one: its text is copied where there is room for so many bytes, and else
-- told as too long
abbrev pub TellsText : List Event → ℕ → ℕ → List ℕ → TextRead → Type 0
TellsText history id room copied (read.Read place) = document_with id history ≡ Some (record { id = id; text = copied; place = place })
TellsText history id room copied read.Absent = document_with id history ≡ None
TellsText history id room copied (read.Short bytes) =
    (document : Document) × (document_with id history ≡ Some document) × (bytes ≡ length document.text) × (room < bytes)
TellsText history id room copied (read.Spent events) = ⊥

-- unless the engine is spent
abbrev pub AnswersText : ℕ → List Event → ℕ → ℕ → List ℕ → TextRead → Type 0
AnswersText most history id room copied (read.Spent events) = IsSpentAt most history events
AnswersText most history id room copied answer = TakesCalls most history × TellsText history id room copied answer

-- where there was no room the get is to be made again, and makes no event
abbrev pub events_of_text : ℕ → ℕ → TextRead → List Event
events_of_text pass id (read.Read place) = event.Read pass (call.Get id) ∷ []
events_of_text pass id read.Absent = event.Read pass (call.Get id) ∷ []
events_of_text pass id _ = []

-- the numbers of the engine are told, unless it is spent
abbrev pub AnswersStats : ℕ → Limits → List Event → Result Stats Spent → Type 0
AnswersStats most limits history (Ok stats) = TakesCalls most history × AreStats limits history stats
AnswersStats most limits history (Err spent) = IsSpentAt most history spent.events

abbrev pub events_of_stats : ℕ → Result Stats Spent → List Event
events_of_stats pass (Ok stats) = event.Read pass call.Stats ∷ []
events_of_stats pass (Err spent) = []

-- a find begins, unless the engine is spent, or there was no memory for the layouts of its slices: its token has the number of commits,
-- the find's own number, and the slices in use
abbrev pub AnswersFind : ℕ → Limits → List Event → Result Token FindFault → Type 0
AnswersFind most limits history (Ok token) =
    TakesCalls most history × (token.place ≡ place history) × (token.opened_at ≡ length history + 1)
    × ((slice : ℕ) → Contains token.slices slice ↔ ((slice < limits.slices) × IsInUse limits.columns slice history))
AnswersFind most limits history (Err (find.Spent events)) = IsSpentAt most history events
AnswersFind most limits history (Err find.Memory) = TakesCalls most history

abbrev pub events_of_find : ℕ → List ℕ → Result Token FindFault → List Event
events_of_find pass query (Ok token) = event.Find pass query ∷ []
events_of_find pass query (Err fault) = []

-- a tuning is told how many there were with this one, unless the engine is spent
abbrev pub AnswersTune : ℕ → List Event → Result ℕ Spent → Type 0
AnswersTune most history (Ok count) = TakesCalls most history × (count ≡ length (tunings history) + 1)
AnswersTune most history (Err spent) = IsSpentAt most history spent.events

abbrev pub events_of_tune : ℕ → Config → Result ℕ Spent → List Event
events_of_tune pass config (Ok count) = event.Tune pass config ∷ []
events_of_tune pass config (Err spent) = []
