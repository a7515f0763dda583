-- Workers whose gates stay open.
use Rattle.std.proofs.Common.{◌≡◌, ◌||◌, Bool, true, false, List, [], ◌∷◌, map, cond, ◌∙◌, sym, refl, subst, inl, inr}
use Rattle.std.specs.List.{All, list_any}
use Rattle.std.proofs.lemmas.List.Elements.{All-cons, All-head, All-nil, All-tail}
use Rattle.engine.specs.Engines.{ClosedState}
use Rattle.funnel_model.specs.declared.config.Config.{Config}
use Rattle.funnel_server.specs.Gates.{GateState}
use Rattle.funnel_server.specs.Workers.{IsStopped, WorkerState}
use Rattle.command_line.specs.declared.command.ServeCommand.{ServeCommand}
use Rattle.funnel.specs.Runs.{limits_by}
use Rattle.funnel_model.proofs.Absence.{neither}
use Rattle.funnel.specs.ServeRuns.{AllWork, HaveAllServed, new_workers}
use Rattle.funnel.specs.declared.ends.Why.TheVariants as why_of

-- a worker that stopped, and whose gate neither failed nor closed, served as many connections as it may
served_its_number : (worker : WorkerState) → IsStopped worker → worker.fault ≡ false → worker.gate.is_closed ≡ false → worker.left ≡ 0
served_its_number worker (inl none) no_fault is_open = none
served_its_number worker (inr (inl fault)) no_fault is_open = let other : true ≡ false = sym fault ∙ no_fault in cc
served_its_number worker (inr (inr no_more)) no_fault is_open = let other : true ≡ false = sym no_more.closed ∙ is_open in cc

all_served_their_number : (befores workers : List WorkerState) → AllWork befores workers → list_any (λ (w : WorkerState). w.fault) workers ≡ false →
    All (λ (gate : GateState). gate.is_closed ≡ false) (map (λ (w : WorkerState). w.gate) workers) → All (λ (w : WorkerState). w.left ≡ 0) workers
all_served_their_number [] [] work none are_open = All-nil (λ (w : WorkerState). w.left ≡ 0)
all_served_their_number [] (worker ∷ workers) work none are_open = absurd work
all_served_their_number (before ∷ befores) [] work none are_open = absurd work
all_served_their_number (before ∷ befores) (worker ∷ workers) work none are_open =
    let both = neither worker.fault (list_any (λ (w : WorkerState). w.fault) workers) none in
    let gates = map (λ (w : WorkerState). w.gate) workers in
    All-cons (λ (w : WorkerState). w.left ≡ 0) worker workers
    (served_its_number worker work.0.stopped both.0 (All-head (λ (gate : GateState). gate.is_closed ≡ false) worker.gate gates are_open))
    (all_served_their_number befores workers work.1 both.1 (All-tail (λ (gate : GateState). gate.is_closed ≡ false) worker.gate gates are_open))

-- where a serve is done no gate failed
no_fault_when_done : (faults memory : Bool) → why_of.Done ≡ cond faults why_of.GateFault (cond memory why_of.Memory why_of.Done) → faults ≡ false
no_fault_when_done false memory is = refl
no_fault_when_done true memory is = absurd (cc is)

pub open_gates : (config : Config) (serve : ServeCommand) (before after : List GateState) (closed : ClosedState)
    (served : HaveAllServed config serve before after why_of.Done closed) → All (λ (gate : GateState). gate.is_closed ≡ false) after →
    All (λ (worker : WorkerState). worker.left ≡ 0) served.workers
open_gates config serve before after closed served are_open =
    all_served_their_number (new_workers config (limits_by config) serve 0 before) served.workers served.work
    (no_fault_when_done (list_any (λ (w : WorkerState). w.fault) served.workers) (list_any (λ (w : WorkerState). w.memory) served.workers) served.cause)
    (subst (All (λ (gate : GateState). gate.is_closed ≡ false)) served.gates are_open)
