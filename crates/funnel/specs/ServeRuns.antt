-- A serve: the connections of each gate are answered by a pass of its own of one new engine.
use Rattle.std.specs.Prelude.{◌≡◌, ◌⊎◌, ⊤, ℕ, ◌+◌, ◌<◌, false, List, [], ◌∷◌, length, map, All, Option, Some, None, if◌then◌else◌}
use Rattle.std.specs.List.{list_any}
use Rattle.engine.specs.Engines.{ClosedState}
use Rattle.funnel_io.specs.Counts.{raised}
use Rattle.funnel_model.specs.declared.config.Config.{Config}
use Rattle.funnel_model.specs.Events.{pass_of}
use Rattle.funnel_model.specs.History.{IsFrontOf, MovesAreCaused}
use Rattle.funnel_model.specs.Legal.{IsLegal, Limits}
use Rattle.funnel_server.specs.Gates.{GateState}
use Rattle.funnel_server.specs.Workers.{WorkerState, Works}
use Rattle.row_layout.specs.Sound.{IsSound}
use Rattle.funnel.specs.Runs.{limits_by}
use Rattle.command_line.specs.declared.command.ServeCommand.{ServeCommand}
use Rattle.funnel.specs.declared.ends.Why.{Why}
use Rattle.funnel.specs.declared.ends.Why.TheVariants as why_of

-- the worker of a gate before its first connection
abbrev pub new_worker : Config → Limits → ServeCommand → ℕ → GateState → WorkerState
new_worker opening limits serve pass gate = record {
  gate = gate;
  caller = record { opening = opening; limits = limits; pass = pass };
  front = [];
  http = serve.http;
  left = serve.connections;
  fault = false;
  memory = false;
}

-- the workers of the gates, each on a pass of its own, from this one up
abbrev pub new_workers : Config → Limits → ServeCommand → ℕ → List GateState → List WorkerState
new_workers opening limits serve pass [] = []
new_workers opening limits serve pass (gate ∷ gates) = new_worker opening limits serve pass gate ∷ new_workers opening limits serve (pass + 1) gates

-- each worker did its work, and there is no other one
abbrev pub AllWork : List WorkerState → List WorkerState → Type 0
AllWork [] [] = ⊤
AllWork (before ∷ befores) (after ∷ afters) = Works before after × AllWork befores afters
AllWork [] (after ∷ afters) = ⊥
AllWork (before ∷ befores) [] = ⊥

-- why a serve ends, where its workers ended so: a fault of a gate goes before want of memory
abbrev pub why_of_workers : List WorkerState → Why
why_of_workers workers =
    if list_any (λ worker. worker.fault) workers then why_of.GateFault
    else (if list_any (λ worker. worker.memory) workers then why_of.Memory else why_of.Done)

-- each gate had a worker, and all workers had their sessions in one history, which goes on from what each has seen without a
-- further event of its pass
pub record HaveAllServed (config : Config) (serve : ServeCommand) (before after : List GateState) (why : Why) (closed : ClosedState) : Type 0 where
  pub legal : IsLegal (limits_by config) closed.history
  pub caused : MovesAreCaused closed.history
  pub sound : IsSound config closed.history
  pub passes : All (λ e. pass_of e < length before) closed.history
  pub workers : List WorkerState
  pub work : AllWork (new_workers config (limits_by config) serve 0 before) workers
  pub fronts : All (λ worker. IsFrontOf worker.caller.pass worker.front closed.history) workers
  pub gates : after ≡ map (λ worker. worker.gate) workers
  pub cause : why ≡ why_of_workers workers

-- one gate failed as it was opened: its count of faults rose; of it and of all others nothing else changed, and no connection came
abbrev pub OneDidNotOpen : List GateState → List GateState → Type 0
OneDidNotOpen (gate ∷ gates) (later ∷ laters) =
    ((later ≡ record gate { faults = raised gate.faults }) × (laters ≡ gates)) ⊎ ((later ≡ gate) × OneDidNotOpen gates laters)
OneDidNotOpen before after = ⊥

-- memory ran out before there was an engine with its workers, or the system gave one of so many workers no thread
abbrev pub IsStartRefused : ℕ → Why → Type 0
IsStartRefused workers why_of.Memory = ⊤
IsStartRefused workers (why_of.NoThread worker) = worker < workers
IsStartRefused workers _ = ⊥

-- the gates were served, or no worker began for want of memory or of a thread, or a gate failed as it was opened
abbrev pub EndsServe : Config → ServeCommand → List GateState → List GateState → Why → Option ClosedState → Type 0
EndsServe config serve before after why (Some closed) = HaveAllServed config serve before after why closed
EndsServe config serve before after why None =
    (IsStartRefused (length before) why × (after ≡ before)) ⊎ ((why ≡ why_of.GateFault) × OneDidNotOpen before after)
