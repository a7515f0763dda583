-- The calls of a run on its input and its output, and those of a serve on its gates and their connections.
use Rattle.std.specs.Prelude.{◌≡◌, ◌⊎◌, ⊤, ℕ, List, [], ◌∷◌, length, Option, Some, None}
use Rattle.std.specs.List.{AllZip}
use Rattle.engine.specs.Engines.{ClosedState}
use Rattle.funnel_io.specs.Calls.{Read, Write}
use Rattle.funnel_io.specs.declared.gate.Gate as Gate
use Rattle.funnel_io.specs.declared.gate.Opening.TheVariants as opening
use Rattle.funnel_io.specs.declared.sink.Sink as Sink
use Rattle.funnel_io.specs.declared.source.Source as Source
use Rattle.funnel_server.specs.Gates.{GateState}
use Rattle.funnel_model.specs.declared.config.Config.{Config}
use Rattle.funnel_server.specs.GateTurns.{CallsInTurns}
use Rattle.funnel_server.specs.Workers.{WorkerState}
use Rattle.session.specs.Turns.{StopsReading, line_by_line}
use Rattle.session.specs.declared.serving.TheConstants.{MOST_BYTES}
use Rattle.command_line.specs.declared.command.ServeCommand.{ServeCommand}
use Rattle.funnel.specs.declared.ends.Why.{Why}
use Rattle.funnel.specs.declared.ends.Why.TheVariants as why_of
use Rattle.funnel.specs.Programs.{EndsAfterServe, EndsUnserved, Streams}
use Rattle.funnel.specs.Runs.{limits_by}
use Rattle.funnel.specs.ServeRuns.{AllWork, EndsServe, IsStartRefused, new_workers}

-- The input and the output of a run are two streams, and the states of both together are that of a connection: a read of the input leaves the
-- output as it was
abbrev pub reads_input : {S K : Type 0} → (S → Read → S → Type 0) → S × K → Read → S × K → Type 0
reads_input gives before read after = gives before.0 read after.0 × (after.1 ≡ before.1)

-- a write of the output leaves the input as it was
abbrev pub writes_output : {S K : Type 0} → (K → Write → K → Type 0) → S × K → Write → S × K → Type 0
writes_output gives before write after = gives before.1 write after.1 × (after.0 ≡ before.0)

-- the calls of a run go as those of a session, which is done where the run is
abbrev pub RunsInTurns : {S K : Type 0} → (S → Read → S → Type 0) → (K → Write → K → Type 0) → Type 0 → S × K → S × K → Type 0
RunsInTurns read_gives write_gives done before after =
    StopsReading line_by_line (reads_input read_gives) (writes_output write_gives) MOST_BYTES done before after

module _ {G C : Type 0} (gate : Gate.Ghosts G C) where
  -- each gate was opened
  abbrev pub AreOpened : List G → List G → Type 0
  AreOpened gates laters = AllZip (λ one later. gate.open_gives one opening.Open later) gates laters

  -- the gates were opened in order up to one that failed, and none after it
  abbrev pub AreOpenedUntilOneFails : List G → List G → Type 0
  AreOpenedUntilOneFails (one ∷ gates) (later ∷ laters) =
      (gate.open_gives one opening.Fault later × (laters ≡ gates)) ⊎ (gate.open_gives one opening.Open later × AreOpenedUntilOneFails gates laters)
  AreOpenedUntilOneFails gates laters = ⊥

  -- the gates of a serve that no worker began: all were opened, and memory or a thread was wanting, or one failed; then all were ended
  pub record AreOpenedInVain (why : Why) (gates laters : List G) : Type 0 where
    pub tried : List G
    pub opened : (IsStartRefused (length gates) why × AreOpened gates tried) ⊎ ((why ≡ why_of.GateFault) × AreOpenedUntilOneFails gates tried)
    pub ended : AllZip gate.end_gives tried laters

module _ {G C : Type 0} (gate : Gate.Ghosts G C) (source : Source.Ghosts C) (sink : Sink.Ghosts C) where
  -- the calls on each gate of a serve and on its connections are those of its worker's sessions, turn by turn; the gates are given as they
  -- went to the workers and as they came back
  abbrev pub GatesGoInTurns : (befores afters : List WorkerState) → AllWork befores afters → List G → List G → Type 0
  GatesGoInTurns [] [] work [] [] = ⊤
  GatesGoInTurns (before ∷ befores) (after ∷ afters) work (one ∷ gates) (later ∷ laters) =
      CallsInTurns gate source sink one work.0.visits (record { gate = later; state = after }) × GatesGoInTurns befores afters work.1 gates laters
  GatesGoInTurns befores afters work gates laters = ⊥

  -- so it is with a serve of which an engine is left; the gates are given as they were opened
  abbrev pub OpenGatesGoInTurns : (config : Config) (serve : ServeCommand) (before after : List GateState) (why : Why) (closed : Option ClosedState)
      → EndsServe config serve before after why closed → List G → List G → Type 0
  OpenGatesGoInTurns config serve before after why (Some closed) served gates laters =
      GatesGoInTurns (new_workers config (limits_by config) serve 0 before) served.workers served.work gates laters
  OpenGatesGoInTurns config serve before after why None served gates laters = ⊤

  -- the calls on the gates of a serve, from their opening to their end
  abbrev pub ServeGoesInTurns : (config : Config) (serve : ServeCommand) (before after : List GateState) (why : Why) (closed : Option ClosedState)
      → EndsServe config serve before after why closed → List G → List G → Type 0
  ServeGoesInTurns config serve before after why (Some closed) served gates laters =
      (opened : List G) × AreOpened gate gates opened × OpenGatesGoInTurns config serve before after why (Some closed) served opened laters
  ServeGoesInTurns config serve before after why None served gates laters = AreOpenedInVain gate why gates laters

  -- a serve ended so, and the calls on its gates are those of the sessions that its end tells of
  pub record EndsAfterServeInTurns (words : List (List ℕ)) (before after : Streams) (why : Why) (closed : Option ClosedState) (gates laters : List G) : Type 0 where
    pub ends : EndsAfterServe words before after why closed
    pub in_turns : ServeGoesInTurns ends.config ends.serve before.gates after.gates why closed ends.served gates laters

  -- a program ends so, of whose calls on gates this is told too: but for a serve there is none
  abbrev pub EndsInTurns : List (List ℕ) → Streams → Streams → Why → Option ClosedState → List G → List G → Type 0
  EndsInTurns words before after why closed gates laters =
      (EndsUnserved words before after why closed × (laters ≡ gates)) ⊎ EndsAfterServeInTurns words before after why closed gates laters
