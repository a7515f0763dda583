-- A load: the calls of its workers, each by a pass of its own of one new engine, and the summary.
use Rattle.std.specs.Prelude.{◌≡◌, ◌<◌, ℕ, List, [], All, Option, Some, None, ◌⊎◌}
use Rattle.engine.specs.Engines.{ClosedState}
use Rattle.funnel_io.specs.Streams.{Outgoing}
use Rattle.funnel_model.specs.declared.config.Config.{Config}
use Rattle.funnel_model.specs.declared.event.Event.{Event}
use Rattle.funnel_model.specs.declared.reply.Reply.{Reply}
use Rattle.funnel_model.specs.Events.{pass_of}
use Rattle.funnel_model.specs.History.{IsFrontOf, MovesAreCaused, own}
use Rattle.funnel_model.specs.Legal.{IsLegal}
use Rattle.funnel_server.specs.Loads.{IsCutShort}
use Rattle.load_gen.specs.Documents.{documents}
use Rattle.load_gen.specs.Jobs.{jobs}
use Rattle.load_gen.specs.Summary.{summary}
use Rattle.load_laws.specs.Workers.{Fronts, HaveMet, IsAnsweredAsTold, IsLoaded}
use Rattle.row_layout.specs.Sound.{IsSound}
use Rattle.command_line.specs.Commands.{IsLoadInRange}
use Rattle.funnel.specs.Misfits.{misfit_of_load}
use Rattle.command_line.specs.declared.command.LoadCommand.{LoadCommand}
use Rattle.funnel.specs.declared.ends.Why.{Why}
use Rattle.funnel.specs.declared.ends.Why.TheVariants as why_of
use Rattle.funnel.specs.Runs.{limits_by}
use Rattle.funnel.specs.Texts.{IsTextWritten}

-- the numbers of the load lie in their ranges and fit the configuration
pub record IsLoadThatFits (config : Config) (load : LoadCommand) : Type 0 where
  pub in_range : IsLoadInRange load
  pub fits : misfit_of_load load config ≡ None

-- the text is written, or there was no memory and nothing is written
abbrev pub Tells : List ℕ → Outgoing → Outgoing → Why → Type 0
Tells text before after why_of.Memory = after ≡ before
Tells text before after why = IsTextWritten text before after why

-- the workers put the whole load: each made the calls of its share, each once, and is answered as the load is to be; and after each part
-- of the load each met what every other had seen. No add and no delete is refused, no document is missed, and the queries have the
-- results of the summary. Each document has exactly its own bits
pub record IsWholeLoad (config : Config) (load : LoadCommand) (closed : ClosedState) : Type 0 where
  pub sound : IsSound config closed.history
  pub replies : ℕ → List Reply
  pub loaded : IsLoaded (limits_by config) load.docs load.words load.seed load.workers closed.history replies
  pub fronts : ℕ → Fronts
  pub met : HaveMet (documents load.docs load.words load.seed) load.workers closed.history fronts
  pub calls : (worker : ℕ) → worker < load.workers → own worker closed.history ≡ jobs load.docs load.words load.seed load.workers worker
  pub answers : (worker : ℕ) → worker < load.workers →
      IsAnsweredAsTold (documents load.docs load.words load.seed) load.workers worker (replies worker)

-- Some calls of the load are left: no worker made an event, or each asked the first of its adds, or each asked all its adds and all its
-- deletes and then the first of its queries; for these it found memory. The history goes on from each worker's front without an event
-- of this worker
pub record IsPartOfLoad (config : Config) (load : LoadCommand) (closed : ClosedState) : Type 0 where
  pub legal : IsLegal (limits_by config) closed.history
  pub caused : MovesAreCaused closed.history
  pub sound : IsSound config closed.history
  pub no_other : All (λ e. pass_of e < load.workers) closed.history
  pub fronts : ℕ → List Event
  pub seen : (worker : ℕ) → worker < load.workers → IsFrontOf worker (fronts worker) closed.history
  pub cut : IsCutShort config (limits_by config) (documents load.docs load.words load.seed) load.workers (λ _. []) fronts

-- A load is made, and its summary told. For want of memory it may end before it is begun, with some of its calls, or where its
-- summary is to be told; then nothing is written.
abbrev pub EndsLoad : Config → LoadCommand → Outgoing → Outgoing → Why → Option ClosedState → Type 0
EndsLoad config load before after why_of.Memory None = after ≡ before
EndsLoad config load before after why_of.Memory (Some closed) = (after ≡ before) × (IsPartOfLoad config load closed ⊎ IsWholeLoad config load closed)
EndsLoad config load before after why (Some closed) = IsWholeLoad config load closed × Tells (summary load.docs load.words load.seed) before after why
EndsLoad config load before after why None = ⊥
