-- The calls of the workers of a serve, in the history of the closed engine.
use Rattle.std.proofs.Common.{◌≡◌, ℕ, ◌+◌, List, [], ◌∷◌, ◌++◌, flat_map, sym, refl, ap, ◌∙◌, subst}
use Rattle.std.proofs.lemmas.List.Elements.{All-head, All-tail, All-weaker}
use Rattle.std.specs.List.{All}
use mathlib.Core.List.{IsPrefix}
use Rattle.engine.specs.Engines.{ClosedState}
use Rattle.funnel_model.proofs.StepLemmas.{prefix_trans}
use Rattle.funnel_model.specs.declared.call.Call.{Call}
use Rattle.funnel_model.specs.declared.config.Config.{Config}
use Rattle.funnel_model.specs.declared.event.Event.{Event}
use Rattle.funnel_model.specs.History.{IsFrontOf, own}
use Rattle.funnel_model.specs.Legal.{Limits}
use Rattle.funnel_server.proofs.Calls.{go_on_by_calls}
use Rattle.funnel_server.specs.Gates.{GateState}
use Rattle.funnel_server.specs.Laws.{HasSeen}
use Rattle.funnel_server.specs.Workers.{Visit, WorkerState, Works}
use Rattle.line_proto.specs.Services.{Caller}
use Rattle.load_laws.proofs.FrontLemmas.{calls_in_front}
use Rattle.command_line.specs.declared.command.ServeCommand.{ServeCommand}
use Rattle.funnel.specs.declared.ends.Why.{Why}
use Rattle.funnel.specs.Laws.{AllCallsAreOfSessions, CallsAreOfSessions}
use Rattle.funnel.specs.Runs.{limits_by}
use Rattle.funnel.specs.ServeRuns.{AllWork, HaveAllServed, new_worker, new_workers}

-- what was seen stands in each history that goes on from there
seen_later : (front history : List Event) → IsPrefix front history → (visit : Visit) → HasSeen front visit → HasSeen history visit
seen_later front history goes_on visit seen = record {
  before = prefix_trans visit.before.front front history seen.before goes_on;
  after = prefix_trans visit.after.front front history seen.after goes_on;
}

-- a worker that had seen nothing made the calls of its sessions
calls_of_worker : (before after : WorkerState) (works : Works before after) (history : List Event) → before.front ≡ [] →
    IsFrontOf after.caller.pass after.front history → CallsAreOfSessions before.caller works.visits history
calls_of_worker before after works history nothing seen =
    let caller = before.caller in
    let goes_on = go_on_by_calls caller before.front after.front works.visits works.serves.sessions works.serves.in_order in
    let front : IsFrontOf caller.pass after.front history = subst (λ (c : Caller). IsFrontOf c.pass after.front history) works.serves.same_pass seen in
    record {
      made = goes_on.made;
      sessions = goes_on.sessions;
      calls =
          calls_in_front caller.pass after.front history front ∙ goes_on.calls
          ∙ ap (λ earlier. own caller.pass earlier ++ flat_map (λ (calls : List Call). calls) goes_on.made) nothing;
      seen = All-weaker (HasSeen after.front) (HasSeen history) (seen_later after.front history (front.later, sym front.whole)) works.visits goes_on.seen;
    }

-- so did each new worker
all_calls : (opening : Config) (limits : Limits) (serve : ServeCommand) (pass : ℕ) (gates : List GateState) (workers : List WorkerState) (history : List Event)
    (work : AllWork (new_workers opening limits serve pass gates) workers) → All (λ worker. IsFrontOf worker.caller.pass worker.front history) workers →
    AllCallsAreOfSessions history (new_workers opening limits serve pass gates) workers work
all_calls opening limits serve pass [] [] history work fronts = tt
all_calls opening limits serve pass [] (worker ∷ workers) history work fronts = absurd work
all_calls opening limits serve pass (gate ∷ gates) [] history work fronts = absurd work
all_calls opening limits serve pass (gate ∷ gates) (worker ∷ workers) history work fronts = (
  calls_of_worker (new_worker opening limits serve pass gate) worker work.0 history refl
      (All-head (λ (w : WorkerState). IsFrontOf w.caller.pass w.front history) worker workers fronts),
  all_calls opening limits serve (pass + 1) gates workers history work.1
      (All-tail (λ (w : WorkerState). IsFrontOf w.caller.pass w.front history) worker workers fronts),
)

pub calls_of_a_serve : (config : Config) (serve : ServeCommand) (before after : List GateState) (why : Why) (closed : ClosedState)
    (served : HaveAllServed config serve before after why closed) →
    AllCallsAreOfSessions closed.history (new_workers config (limits_by config) serve 0 before) served.workers served.work
calls_of_a_serve config serve before after why closed served =
    all_calls config (limits_by config) serve 0 before served.workers closed.history served.work served.fronts
