-- How the gates and the passes go to the workers of a serve and come back, for the clauses of functions that are not public.
use Rattle.std.specs.Prelude.{◌≡◌, ◌-◌, List, [], ◌++◌, length, map, Option}
use Rattle.engine.specs.Engines.{ClosedState}
use Rattle.engine.specs.Passes.{PassView}
use Rattle.funnel_io.specs.Answers.{MatchOpening}
use Rattle.funnel_io.specs.declared.gate.Gate as Gate
use Rattle.funnel_io.specs.declared.gate.Opening.{Opening}
use Rattle.funnel_io.specs.declared.sink.Sink as Sink
use Rattle.funnel_io.specs.declared.source.Source as Source
use Rattle.funnel_model.specs.declared.config.Config.{Config}
use Rattle.funnel_server.specs.Gates.{GateState, gate_state}
use Rattle.funnel_server.specs.Workers.{WorkerState, WorkerWithGate}
use Rattle.slice_rule.specs.Pools.{PoolId}
use Rattle.funnel.specs.ServeRuns.{AllWork, EndsServe, OneDidNotOpen, new_workers, why_of_workers}
use Rattle.funnel.specs.Serving.{new_passes}
use Rattle.funnel.specs.Turns.{GatesGoInTurns, OpenGatesGoInTurns, ServeGoesInTurns}
use Rattle.command_line.specs.declared.command.ServeCommand.{ServeCommand}
use Rattle.funnel.specs.declared.ends.Why.{Why}

-- the pass of a worker
abbrev pub pass_of_worker : WorkerState → PassView
pass_of_worker worker = record { number = worker.caller.pass; front = worker.front }

-- the workers without their gates themselves
abbrev pub states_of : {G : Type 0} → List (WorkerWithGate G) → List WorkerState
states_of workers = map (λ worker. worker.state) workers

-- and their gates
abbrev pub gates_of : {G : Type 0} → List (WorkerWithGate G) → List G
gates_of workers = map (λ worker. worker.gate) workers

-- each gate went to the worker of its place, and none is left
pub record ArePassedOn {G : Type 0} (gates left : List G) (workers : List (WorkerWithGate G)) : Type 0 where
  pub theirs : gates_of workers ≡ gates
  pub none_left : left ≡ []

-- each gate had a worker, each on a pass of its own, and the gates and all passes came back, those of the workers behind the others
pub record HaveWorked (pool : PoolId) (serve : ServeCommand) (before after : List GateState) (why : Why) (passes : List PassView) : Type 0 where
  pub workers : List WorkerState
  pub work : AllWork (new_workers pool.config pool.limits serve 0 before) workers
  pub gates : after ≡ map (λ worker. worker.gate) workers
  pub cause : why ≡ why_of_workers workers
  pub back : passes ≡ new_passes (length before) (pool.config.passes - length before) ++ map pass_of_worker workers

module _ {G C : Type 0} (gate : Gate.Ghosts G C) (source : Source.Ghosts C) (sink : Sink.Ghosts C) where
  -- what gates tell
  abbrev pub told_by : List G → List GateState
  told_by gates = map (gate_state gate source sink) gates

  -- the gates tell what they told before
  abbrev pub TellTheSame : List G → List G → Type 0
  TellTheSame gates laters = told_by laters ≡ told_by gates

  -- so do gates that were opened; or one of them failed as it was opened
  abbrev pub TellOfOpening : Opening → List G → List G → Type 0
  TellOfOpening answer gates laters = MatchOpening answer (TellTheSame gates laters) (OneDidNotOpen (told_by gates) (told_by laters))

  -- the gates had workers that worked, and the calls on them are those of the workers' sessions, turn by turn
  pub record HaveWorkedInTurns (pool : PoolId) (serve : ServeCommand) (gates laters : List G) (why : Why) (passes : List PassView) : Type 0 where
    pub worked : HaveWorked pool serve (told_by gates) (told_by laters) why passes
    pub in_turns : GatesGoInTurns gate source sink (new_workers pool.config pool.limits serve 0 (told_by gates)) worked.workers worked.work gates laters

  -- a serve of gates that were opened ended so, and the calls on them are those of the sessions that its end tells of
  pub record EndsOpenServeInTurns (config : Config) (serve : ServeCommand) (gates laters : List G) (why : Why) (closed : Option ClosedState) : Type 0 where
    pub ends : EndsServe config serve (told_by gates) (told_by laters) why closed
    pub in_turns : OpenGatesGoInTurns gate source sink config serve (told_by gates) (told_by laters) why closed ends gates laters

  -- a serve ended so, and the calls on its gates are those of their opening, of these sessions and of their end
  pub record EndsServeInTurns (config : Config) (serve : ServeCommand) (gates laters : List G) (why : Why) (closed : Option ClosedState) : Type 0 where
    pub ends : EndsServe config serve (told_by gates) (told_by laters) why closed
    pub in_turns : ServeGoesInTurns gate source sink config serve (told_by gates) (told_by laters) why closed ends gates laters
