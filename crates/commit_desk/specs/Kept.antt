-- What the desk keeps of a history.
use Rattle.std.specs.Prelude.{◌≡◌, ℕ, ◌+◌, ◌*◌, ◌^◌, ◌<◌, ◌≤◌, ◌↔◌, ◌⊎◌, false, true, List, length, count_by, sum_by, Option, None}
use Rattle.std.specs.List.{range_with_len}
use Rattle.std.specs.Option.{option_map_or}
use Rattle.document_store.specs.Entries.{Entries}
use Rattle.document_store.specs.Slots.{Table, slots_of, is_over}
use Rattle.funnel_model.specs.Configuration.{IsInRange}
use Rattle.funnel_model.specs.declared.config.Config.{Config}
use Rattle.funnel_model.specs.declared.event.Event.{Event}
use Rattle.funnel_model.specs.declared.event.Event.TheVariants as event
use Rattle.funnel_model.specs.History.{MovesAreCaused, last_by}
use Rattle.funnel_model.specs.Legal.{Limits, IsLegal, awaited}
use Rattle.funnel_model.specs.Slices.{IsRetiredAt, claimed, is_clearing, is_clearing_by}
use Rattle.funnel_model.specs.Tokens.{HasToken}
use Rattle.funnel_model.specs.Sizes.{words_of_slice}
use Rattle.row_layout.specs.Sound.{IsSound}
use Rattle.slice_rule.specs.Pools.{PoolId, limits_of}
use Rattle.slice_stages.specs.Stages.{StageTable, stage_of}
use Rattle.slice_stages.specs.declared.stage.Stage.{Stage}
use Rattle.slice_stages.specs.declared.stage.Stage.TheVariants as stage
use Rattle.token_manager.specs.Guarding.{HasOpened, IsOldest, NoneOpen}
use Rattle.commit_desk.specs.Journals.{IsJournalOf, JournalState}
use Rattle.commit_desk.specs.Layouts.{AreLayoutsOf, LayoutsState}
use Rattle.commit_desk.specs.Records.{AreListed, AreRecorded}

-- each pass has the token that is kept of it, and no other
pub record AreTokens (limits : Limits) (history : List Event) (tokens : List (Option ℕ)) : Type 0 where
  pub count : length tokens ≡ limits.passes
  pub each : (pass number : ℕ) → HasOpened tokens pass number ↔ HasToken history pass number

-- a slice in use: its claimed columns are its first, and so many of its columns are over, fewer than it has
pub record IsUsedSlice (columns : ℕ) (history : List Event) (table : Table) (slice first over : ℕ) : Type 0 where
  pub not_clearing : is_clearing slice history ≡ false
  pub claims : claimed slice history ≡ range_with_len 0 first
  pub within : first ≤ columns
  pub count : over ≡ count_by is_over (slots_of table slice)
  pub some_left : over < columns

-- a slice that retired at the event with this number
pub record IsRetiredSlice (columns : ℕ) (history : List Event) (slice at : ℕ) : Type 0 where
  pub not_clearing : is_clearing slice history ≡ false
  pub retired : IsRetiredAt columns slice history at

-- the slice is as far as it is kept to be
abbrev pub IsAtStage : ℕ → List Event → Table → ℕ → Stage → Type 0
IsAtStage columns history table slice (stage.InUse first over) = IsUsedSlice columns history table slice first over
IsAtStage columns history table slice (stage.Retired at) = IsRetiredSlice columns history slice at
IsAtStage columns history table slice (stage.Clearing pass) = is_clearing_by pass slice history ≡ true

-- each slice is; and each running find began at the mark or after it, so that no token guards what retired up to the mark
pub record AreStages (limits : Limits) (history : List Event) (table : Table) (tokens : List (Option ℕ)) (stages : StageTable) : Type 0 where
  pub count : length stages.stages ≡ limits.slices
  pub columns_are : stages.columns ≡ limits.columns
  pub each : (slice : ℕ) → slice < limits.slices → IsAtStage limits.columns history table slice (stage_of stages slice)
  pub mark_within : stages.mark ≤ length history
  pub none_before : (pass number : ℕ) → HasOpened tokens pass number → stages.mark ≤ number

-- where the mark moves to after so many events: where the oldest running find began, or, where none runs, the last of them
abbrev pub IsNextMark : ℕ → List (Option ℕ) → ℕ → Type 0
IsNextMark events tokens mark = IsOldest tokens mark ⊎ (NoneOpen tokens × (mark ≡ events))

-- the mark has moved there, and all else is as it was
pub record MovesMark (events : ℕ) (tokens : List (Option ℕ)) (before after : StageTable) : Type 0 where
  pub next : IsNextMark events tokens after.mark
  pub is : after ≡ record before { mark = after.mark }

-- refusals and reads change nothing that is kept but the number of events
abbrev pub IsPlain : Event → Type 0
IsPlain (event.No pass asked) = Unit {0}
IsPlain (event.Read pass asked) = Unit {0}
IsPlain _ = ⊥

-- how many events the call that a pass is in the middle of can still make, by the pass's last event
abbrev pub events_left : Event → ℕ
events_left (event.Take pass slice column) = 1
events_left (event.Clear pass slice) = 3
events_left (event.Opened pass slice false) = 2
events_left (event.Find pass query) = 1
events_left _ = 0

-- and all calls together
abbrev pub all_left : ℕ → List Event → ℕ
all_left passes history = sum_by (λ pass. option_map_or events_left (last_by pass history) 0) (range_with_len 0 passes)

-- the history has few enough events: those that open calls can still make stay below three a pass after the limit
abbrev pub HasFew : ℕ → ℕ → List Event → Type 0
HasFew most passes history = length history + all_left passes history ≤ most + 3 * passes

-- what the desk keeps beside the history: the numbers of slices and of columns of each, the number of its events, the journal of its
-- last commits, the records of the columns, the live numbers, the tokens of running finds, how far each slice is, and its layout
pub record Books : Type 0 where
  pub slices : ℕ
  pub columns : ℕ
  pub events : ℕ
  pub journal : JournalState
  pub table : Table
  pub live : Entries
  pub tokens : List (Option ℕ)
  pub stages : StageTable
  pub layouts : LayoutsState

-- a history, in which each move has its cause, and what is kept beside it
pub record AreBooksOf (config : Config) (limits : Limits) (most : ℕ) (history : List Event) (books : Books) : Type 0 where
  pub few : HasFew most limits.passes history
  pub legal : IsLegal limits history
  pub sound : IsSound config history
  pub caused : MovesAreCaused history
  pub slices_are : books.slices ≡ limits.slices
  pub columns_are : books.columns ≡ limits.columns
  pub events_are : books.events ≡ length history
  pub journal_is : IsJournalOf limits.commits history books.journal
  pub recorded : AreRecorded limits history books.table
  pub listed : AreListed books.table books.live
  pub tokens_are : AreTokens limits history books.tokens
  pub staged : AreStages limits history books.table books.tokens books.stages
  pub layouts_are : AreLayoutsOf config limits.slices history books.layouts

-- the desk of this pool, with this limit of events: the pool's sizes are those of its configuration, with the room for its rows
pub record IsDesk (pool : PoolId) (most : ℕ) (history : List Event) (books : Books) : Type 0 where
  pub in_range : IsInRange pool.config
  pub sizes : pool.limits ≡ limits_of pool.config (words_of_slice pool.config)
  pub some : 1 ≤ most
  pub bounded : most ≤ 2 ^ 62
  pub none_awaited : awaited history ≡ None
  pub kept : AreBooksOf pool.config pool.limits most history books
