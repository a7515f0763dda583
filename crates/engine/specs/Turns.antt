-- The calls that have one turn at the desk.
use Rattle.std.specs.Prelude.{◌≡◌, ℕ, ◌<◌, ◌≤◌, List, [], ◌∷◌, MatchResult, Option, Result, Ok, Err}
use Rattle.funnel_model.specs.declared.call.Call.TheVariants as call
use Rattle.funnel_model.specs.declared.commit.Commit.{Commit}
use Rattle.funnel_model.specs.declared.config.Config.{Config}
use Rattle.funnel_model.specs.declared.event.Event.{Event}
use Rattle.funnel_model.specs.declared.stats.Stats.{Stats}
use Rattle.funnel_model.specs.declared.event.Event.TheVariants as event
use Rattle.funnel_model.specs.Legal.{Limits}
use Rattle.funnel_model.specs.Sizes.{words_of_slice}
use Rattle.commit_desk.specs.Answers.{AnswersDelete, AnswersJournal, AnswersPlace, AnswersStats, AnswersTune, IsSpentAt, events_of_delete, events_of_journal, events_of_place, events_of_stats}
use Rattle.commit_desk.specs.Layouts.{HandsBackUnused}
use Rattle.commit_desk.specs.declared.answers.DeleteFault.{DeleteFault}
use Rattle.commit_desk.specs.declared.answers.JournalFault.{JournalFault}
use Rattle.commit_desk.specs.declared.answers.Spent.{Spent}
use Rattle.engine.specs.declared.retuning.TuneFault.{TuneFault}
use Rattle.engine.specs.declared.retuning.TuneFault.TheVariants as tune
use Rattle.engine.specs.Passes.{MakesCall, PassView}
use Rattle.engine.specs.Replies.{reply_of_tune}
use Rattle.row_layout.specs.declared.fault.LayoutFault.{LayoutFault}
use Rattle.row_layout.specs.declared.fault.LayoutFault.TheVariants as layout
use Rattle.row_layout.specs.Layouts.{LayoutId}
use Rattle.slice_recycler.specs.Turns.{IsTurn}
use Rattle.slice_rule.specs.Pools.{PoolId}

-- the desk's answer to the delete of this number
abbrev pub DeleteTurn : Limits → ℕ → Result ℕ DeleteFault → PassView → PassView → Type 0
DeleteTurn limits id answer before after =
    IsTurn before.number before.front after.front (λ history. AnswersDelete limits.events history id answer) (events_of_delete before.number id answer)

-- its answer to a place
abbrev pub PlaceTurn : Limits → Result ℕ Spent → PassView → PassView → Type 0
PlaceTurn limits answer before after =
    IsTurn before.number before.front after.front (λ history. AnswersPlace limits.events history answer) (events_of_place before.number answer)

-- to a question for its numbers
abbrev pub StatsTurn : Limits → Result Stats Spent → PassView → PassView → Type 0
StatsTurn limits answer before after =
    IsTurn before.number before.front after.front (λ history. AnswersStats limits.events limits history answer) (events_of_stats before.number answer)

-- and to a journal
abbrev pub JournalTurn : Limits → ℕ → Result (List Commit) JournalFault → PassView → PassView → Type 0
JournalTurn limits from answer before after =
    IsTurn before.number before.front after.front (λ history. AnswersJournal limits.events limits history from answer)
    (events_of_journal before.number from answer)

-- A tuning that gives its layout is answered so, and the layout that was current before comes back in its place, where no slice has its
-- treatment; where it is refused the given one does.
pub record AnswersTuning (pool : PoolId) (given left : Option LayoutId) (answer : Result ℕ Spent) (history : List Event) : Type 0 where
  pub answers : AnswersTune pool.limits.events history answer
  pub hands_back : MatchResult answer (λ _. HandsBackUnused pool history left) (λ _. left ≡ given)

-- a slice has room for the rows of this configuration
abbrev pub HasRoomFor : Limits → Config → Type 0
HasRoomFor limits config = words_of_slice config ≤ limits.slice_words

-- by this configuration a slice needs so many row words, and it has room for fewer
pub record IsTooWide (limits : Limits) (config : Config) (needed room : ℕ) : Type 0 where
  pub needed_is : needed ≡ words_of_slice config
  pub room_is : room ≡ limits.slice_words
  pub wide : room < needed

-- what a tuning is answered whose rows were not laid out
abbrev pub fault_of_layout : LayoutFault → TuneFault
fault_of_layout (layout.Wide needed room) = tune.Wide needed room
fault_of_layout layout.Memory = tune.Memory

-- The answer to a tuning, whose rows have room. Where they have none, or no memory was found for their layout, nothing was done.
abbrev pub TuneTurn : Limits → Config → Result ℕ TuneFault → PassView → PassView → Type 0
TuneTurn limits config (Ok count) before after = HasRoomFor limits config
    × IsTurn before.number before.front after.front (λ history. AnswersTune limits.events history (Ok count)) (event.Tune before.number config ∷ [])
TuneTurn limits config (Err (tune.Spent events)) before after = HasRoomFor limits config
    × IsTurn before.number before.front after.front (λ history. IsSpentAt limits.events history events) []
TuneTurn limits config (Err tune.Memory) before after = HasRoomFor limits config × (after ≡ before)
TuneTurn limits config (Err (tune.Wide needed room)) before after = IsTooWide limits config needed room × (after ≡ before)

-- the call of the tuning was made, unless its rows have no room
abbrev pub MakesTuneCall : Limits → Config → Result ℕ TuneFault → PassView → PassView → Type 0
MakesTuneCall limits config (Err (tune.Wide needed room)) before after = Unit {0}
MakesTuneCall limits config answer before after = MakesCall limits (call.Tune config) (reply_of_tune answer) before after
