-- The workers of a serve, from their gates and passes to these again.
use Rattle.std.proofs.Common.{◌≡◌, ℕ, suc, ◌+◌, ◌-◌, ◌<◌, ◌≤◌, false, List, [], ◌∷◌, ◌++◌, length, map, Some, sym, refl, ap, ◌∙◌, subst, rules, arith, append_assoc, append-nil, length-append, slice_index_or}
use Rattle.std.proofs.lemmas.List.{length-map, map-append}
use Rattle.std.proofs.lemmas.List.Elements.{All-cons, All-contains, All-head, All-nil, All-tail, Contains-append_left, Contains-append_right}
use Rattle.std.proofs.lemmas.List.FromFn.{get_or-map-range_with_len, length-map-range_with_len}
use Rattle.std.specs.List.{All, AllZip, Contains, list_any, remove}
use Rattle.std.specs.Prelude.{◌==◌, ◌||◌, Bool}
use Rattle.engine.specs.Clients.{caller_of}
use Rattle.engine.specs.Engines.{ClosedState, EndsIn}
use Rattle.engine.specs.Passes.{PassView, new_pass}
use Rattle.funnel_model.specs.declared.config.Config.{Config}
use Rattle.funnel_model.specs.declared.event.Event.{Event}
use Rattle.funnel_model.specs.Events.{pass_of}
use Rattle.funnel_model.specs.History.{IsFrontOf, MovesAreCaused}
use Rattle.funnel_model.specs.Legal.{IsLegal, Limits}
use Rattle.funnel_io.specs.declared.gate.Gate as Gate
use Rattle.funnel_io.specs.declared.sink.Sink as Sink
use Rattle.funnel_io.specs.declared.source.Source as Source
use Rattle.funnel_server.specs.Gates.{GateState, gate_state}
use Rattle.funnel_server.specs.GateTurns.{WorksInTurns}
use Rattle.funnel_server.specs.Workers.{HasMetNoFault, WorkerState, WorkerWithGate}
use Rattle.row_layout.specs.Sound.{IsSound}
use Rattle.slice_rule.specs.Pools.{PoolId}
use Rattle.funnel.proofs.Passes.{of_first_passes}
use Rattle.command_line.specs.declared.command.ServeCommand.{ServeCommand}
use Rattle.funnel.specs.declared.ends.Why.{Why}
use Rattle.funnel.specs.Runs.{limits_by}
use Rattle.funnel.specs.ServeRuns.{AllWork, new_worker, new_workers, why_of_workers}
use Rattle.funnel.specs.Serving.{new_passes}
use Rattle.funnel.specs.Turns.{GatesGoInTurns}
use Rattle.funnel.specs.Workers.{EndsOpenServeInTurns, HaveWorked, HaveWorkedInTurns, gates_of, pass_of_worker, states_of, told_by}
use Rattle.funnel.proofs.Equipped.{AreEquipped, GaveBack}

-- ---- the gates and passes go to workers

-- no worker is made yet
pub equip-begin : (pool : PoolId) (serve : ServeCommand) (all : List GateState) (passes : List PassView) (workers : List WorkerState) → workers ≡ [] →
    passes ≡ new_passes 0 pool.config.passes → AreEquipped pool serve all all passes workers
equip-begin pool serve all passes workers none new =
    subst (AreEquipped pool serve all all passes) (sym none) (record { made = refl; count = omega arith; passes_left = new ∙ ap (new_passes 0) (omega arith) })

-- the passes that are left are the next one and the others
next_passes : (pool : PoolId) (n : ℕ) → n < pool.config.passes →
    new_passes n (pool.config.passes - n) ≡ new_pass n ∷ new_passes (n + 1) (pool.config.passes - (n + 1))
next_passes pool n small =
    let more : pool.config.passes - n ≡ suc (pool.config.passes - (n + 1)) = omega arith in
    ap (new_passes n) more

-- the next pass is new
pub next_pass : (pool : PoolId) (serve : ServeCommand) (all left : List GateState) (passes : List PassView) (workers : List WorkerState) (pass : PassView) →
    AreEquipped pool serve all left passes workers → 0 < length left → length all ≤ pool.config.passes → pass ≡ slice_index_or passes 0 pass →
    pass ≡ new_pass (length workers)
next_pass pool serve all left passes workers pass so_far some enough is =
    is ∙ ap (λ xs. slice_index_or xs 0 pass) (so_far.passes_left ∙ next_passes pool (length workers) (omega (arith, so_far.count)))

-- so many passes are left that there is a next one
pub some_passes : (pool : PoolId) (serve : ServeCommand) (all left : List GateState) (passes : List PassView) (workers : List WorkerState) →
    AreEquipped pool serve all left passes workers → 0 < length left → length all ≤ pool.config.passes → 0 < length passes
some_passes pool serve all left passes workers so_far some enough =
    let many = ap length (so_far.passes_left ∙ next_passes pool (length workers) (omega (arith, so_far.count))) in
    omega (arith, many)

-- one more worker is made
equip-one : (pool : PoolId) (serve : ServeCommand) (all : List GateState) (gate : GateState) (rest : List GateState) (passes others : List PassView) (pass : PassView)
    (workers more : List WorkerState) (worker : WorkerState) →
    AreEquipped pool serve all (gate ∷ rest) passes workers → length all ≤ pool.config.passes →
    pass ≡ slice_index_or passes 0 pass → others ≡ remove passes 0 →
    worker ≡ record { gate = gate; caller = caller_of pool.config pool.limits pass; front = pass.front; http = serve.http; left = serve.connections; fault = false; memory = false } →
    more ≡ workers ++ worker ∷ [] → AreEquipped pool serve all rest others more
equip-one pool serve all gate rest passes others pass workers more worker so_far enough is left_are made_of more_are =
    let n = length workers in
    let passes_are = so_far.passes_left ∙ next_passes pool n (omega (arith, so_far.count)) in
    let pass_is : pass ≡ new_pass n = is ∙ ap (λ xs. slice_index_or xs 0 pass) passes_are in
    let worker_is : worker ≡ new_worker pool.config pool.limits serve n gate =
    made_of ∙ ap (λ (p : PassView). record { gate = gate; caller = caller_of pool.config pool.limits p; front = p.front; http = serve.http; left = serve.connections; fault = false; memory = false }) pass_is in
    let longer : length more ≡ n + 1 = ap length more_are ∙ length-append workers (worker ∷ []) in
    record {
      made =
          ap (λ k. more ++ new_workers pool.config pool.limits serve k rest) longer
          ∙ ap (λ ws. ws ++ new_workers pool.config pool.limits serve (n + 1) rest) more_are
          ∙ append_assoc workers (worker ∷ []) (new_workers pool.config pool.limits serve (n + 1) rest)
          ∙ ap (λ w. workers ++ w ∷ new_workers pool.config pool.limits serve (n + 1) rest) worker_is
          ∙ so_far.made;
      count = omega (arith, longer, so_far.count);
      passes_left =
          left_are ∙ ap (λ xs. remove xs 0) passes_are
          ∙ ap (λ k. new_passes k (pool.config.passes - k)) (sym longer);
    }

-- of a gate that was the first of those that were left
pub equip-more : {G : Type 0} (state : G → GateState) (pool : PoolId) (serve : ServeCommand) (all gates rest : List G) (gate : G) (passes others : List PassView)
    (pass : PassView) (workers more : List WorkerState) (worker : WorkerState) →
    AreEquipped pool serve (map state all) (map state gates) passes workers → length all ≤ pool.config.passes → 0 < length gates →
    gate ≡ slice_index_or gates 0 gate → rest ≡ remove gates 0 → pass ≡ slice_index_or passes 0 pass → others ≡ remove passes 0 →
    worker ≡ record { gate = state gate; caller = caller_of pool.config pool.limits pass; front = pass.front; http = serve.http; left = serve.connections; fault = false; memory = false } →
    more ≡ workers ++ worker ∷ [] → AreEquipped pool serve (map state all) (map state rest) others more
equip-more {G} state pool serve all [] rest gate passes others pass workers more worker so_far enough some first rest_are is left_are made_of more_are = absurd (omega arith)
equip-more {G} state pool serve all (g ∷ gs) rest gate passes others pass workers more worker so_far enough some first rest_are is left_are made_of more_are =
    subst (λ (xs : List G). AreEquipped pool serve (map state all) (map state xs) others more) (sym rest_are)
    (equip-one pool serve (map state all) (state g) (map state gs) passes others pass workers more worker so_far (omega (arith, enough, length-map all state)) is left_are
    (made_of ∙ ap (λ (x : G). record { gate = state x; caller = caller_of pool.config pool.limits pass; front = pass.front; http = serve.http; left = serve.connections; fault = false; memory = false }) first) more_are)

-- a gate that was the first of those that were left is the last one that has a worker
pub moved_on : {G : Type 0} (workers more : List (WorkerWithGate G)) (worker : WorkerWithGate G) (gates rest all : List G) → gates_of workers ++ gates ≡ all →
    0 < length gates → worker.gate ≡ slice_index_or gates 0 worker.gate → rest ≡ remove gates 0 → more ≡ workers ++ worker ∷ [] → gates_of more ++ rest ≡ all
moved_on {G} workers more worker [] rest all so_far some first rest_are more_are = absurd (omega arith)
moved_on {G} workers more worker (gate ∷ gates) rest all so_far some first rest_are more_are =
    ap (λ (gs : List G). gates_of more ++ gs) rest_are
    ∙ ap (λ (ws : List (WorkerWithGate G)). gates_of ws ++ gates) more_are
    ∙ ap (λ (gs : List G). gs ++ gates) (map-append (λ (w : WorkerWithGate G). w.gate) workers (worker ∷ []))
    ∙ append_assoc (gates_of workers) (worker.gate ∷ []) gates
    ∙ ap (λ (g : G). gates_of workers ++ g ∷ gates) first
    ∙ so_far

-- all workers are made
pub equip-end : (pool : PoolId) (serve : ServeCommand) (all left : List GateState) (passes : List PassView) (workers : List WorkerState) →
    AreEquipped pool serve all left passes workers → left ≡ [] →
    (workers ≡ new_workers pool.config pool.limits serve 0 all) × (passes ≡ new_passes (length all) (pool.config.passes - length all))
equip-end pool serve all left passes workers so_far none =
    let count : length workers ≡ length all = omega (arith, so_far.count, ap length none) in (
      sym (append-nil workers) ∙ ap (λ gs. workers ++ new_workers pool.config pool.limits serve (length workers) gs) (sym none) ∙ so_far.made,
      so_far.passes_left ∙ ap (λ k. new_passes k (pool.config.passes - k)) count,
    )

pub length-new_workers : (opening : Config) (limits : Limits) (serve : ServeCommand) (pass : ℕ) (gates : List GateState) → length (new_workers opening limits serve pass gates) ≡ length gates
length-new_workers opening limits serve pass [] = refl
length-new_workers opening limits serve pass (gate ∷ gates) = ap suc (length-new_workers opening limits serve (pass + 1) gates)

-- there are as many workers as gates
pub workers_count : {G : Type 0} (state : G → GateState) (opening : Config) (limits : Limits) (serve : ServeCommand) (gates : List G) (fresh workers : List WorkerState) →
    fresh ≡ new_workers opening limits serve 0 (map state gates) → length workers ≡ length fresh → length workers ≡ length gates
workers_count {G} state opening limits serve gates fresh workers made same =
    same ∙ ap length made ∙ length-new_workers opening limits serve 0 (map state gates) ∙ length-map gates state

pub all_ready : (opening : Config) (limits : Limits) (serve : ServeCommand) (pass : ℕ) (gates : List GateState) → All HasMetNoFault (new_workers opening limits serve pass gates)
all_ready opening limits serve pass [] = All-nil HasMetNoFault
all_ready opening limits serve pass (gate ∷ gates) =
    All-cons HasMetNoFault (new_worker opening limits serve pass gate) (new_workers opening limits serve (pass + 1) gates) (record { no_fault = refl; no_memory = refl })
    (all_ready opening limits serve (pass + 1) gates)

-- what holds of some worker holds of its state
pub any_of_states : {G : Type 0} (test : WorkerState → Bool) (workers : List (WorkerWithGate G)) → list_any (λ worker. test worker.state) workers ≡ list_any test (states_of workers)
any_of_states {G} test [] = refl
any_of_states {G} test (worker ∷ workers) = ap (λ b. test worker.state || b) (any_of_states test workers)

pub all_with_gate : {G : Type 0} (workers : List (WorkerWithGate G)) → All HasMetNoFault (states_of workers) → All (λ worker. HasMetNoFault worker.state) workers
all_with_gate {G} [] ready = All-nil (λ (worker : WorkerWithGate G). HasMetNoFault worker.state)
all_with_gate {G} (worker ∷ workers) ready =
    All-cons (λ (worker : WorkerWithGate G). HasMetNoFault worker.state) worker workers (All-head HasMetNoFault worker.state (states_of workers) ready)
    (all_with_gate workers (All-tail HasMetNoFault worker.state (states_of workers) ready))

-- ---- the workers work

-- of workers with their gates
module _ {G C : Type 0} (gate : Gate.Ghosts G C) (source : Source.Ghosts C) (sink : Sink.Ghosts C) where
  abbrev state : G → GateState
  state = gate_state gate source sink

  -- they did their work, turn by turn
  record WorkInTurns (befores afters : List WorkerState) (gates laters : List G) : Type 0 where
    pub work : AllWork befores afters
    pub turns : GatesGoInTurns gate source sink befores afters work gates laters

  work_in_turns : (befores afters : List (WorkerWithGate G)) → AllZip (WorksInTurns gate source sink) befores afters →
      WorkInTurns (states_of befores) (states_of afters) (gates_of befores) (gates_of afters)
  work_in_turns [] [] work = record { work = tt; turns = tt }
  work_in_turns (before ∷ befores) [] work = absurd work
  work_in_turns [] (after ∷ afters) work = absurd work
  work_in_turns (before ∷ befores) (after ∷ afters) work =
      let others = work_in_turns befores afters work.1 in
      record { work = (work.0.works, others.work); turns = (work.0.in_turns, others.turns) }

  -- the gates had workers, and all came back
  pub have_worked : (pool : PoolId) (serve : ServeCommand) (gates none back : List G) (why : Why) (left passes : List PassView)
      (befores afters : List (WorkerWithGate G)) →
      states_of befores ≡ new_workers pool.config pool.limits serve 0 (map state gates) → gates_of befores ≡ gates → none ≡ [] →
      left ≡ new_passes (length gates) (pool.config.passes - length gates) → AllZip (WorksInTurns gate source sink) befores afters →
      map state back ≡ map state none ++ map (λ (worker : WorkerState). worker.gate) (states_of afters) → back ≡ none ++ gates_of afters →
      why ≡ why_of_workers (states_of afters) → passes ≡ left ++ map pass_of_worker (states_of afters) →
      HaveWorkedInTurns gate source sink pool serve gates back why passes
  have_worked pool serve gates none back why left passes befores afters made theirs empty left_are work told back_are cause come =
      let came : back ≡ gates_of afters = back_are ∙ ap (λ (gs : List G). gs ++ gates_of afters) empty in
      let all : WorkInTurns (new_workers pool.config pool.limits serve 0 (map state gates)) (states_of afters) gates back =
      subst (λ (ws : List WorkerState). WorkInTurns ws (states_of afters) gates back) made
      (subst (λ (gs : List G). WorkInTurns (states_of befores) (states_of afters) gs back) theirs
      (subst (λ (gs : List G). WorkInTurns (states_of befores) (states_of afters) (gates_of befores) gs) (sym came)
      (work_in_turns befores afters work))) in
      record {
        worked = record {
          workers = states_of afters;
          work = all.work;
          gates = told ∙ ap (λ (gs : List G). map state gs ++ map (λ (worker : WorkerState). worker.gate) (states_of afters)) empty;
          cause = cause;
          back =
              come ∙ ap (λ ps. ps ++ map pass_of_worker (states_of afters)) left_are
              ∙ ap (λ n. new_passes n (pool.config.passes - n) ++ map pass_of_worker (states_of afters)) (sym (length-map gates state));
        };
        in_turns = all.turns;
      }

pub as_many : {G : Type 0} (befores afters : List (WorkerWithGate G)) → length afters ≡ length befores → length (states_of afters) ≡ length (states_of befores)
as_many {G} befores afters same =
    length-map afters (λ (worker : WorkerWithGate G). worker.state) ∙ same ∙ sym (length-map befores (λ (worker : WorkerWithGate G). worker.state))

-- ---- the gates and passes come back

-- none came back yet
pub back-begin : (workers left : List WorkerState) (before after : List GateState) (others passes : List PassView) → workers ≡ left → after ≡ before →
    passes ≡ others → GaveBack workers left before after others passes
back-begin workers left before after others passes same gates_are passes_are = record {
  done = [];
  parts = same;
  gates = gates_are ∙ sym (append-nil before);
  back = passes_are ∙ sym (append-nil others);
}

-- the gate and the pass of one more worker came back
pub back-more : (workers left rest : List WorkerState) (worker : WorkerState) (before now after : List GateState) (gate : GateState)
    (others passes more : List PassView) (pass : PassView) →
    GaveBack workers left before now others passes → left ≡ worker ∷ rest → after ≡ now ++ gate ∷ [] → more ≡ passes ++ pass ∷ [] →
    gate ≡ worker.gate → pass ≡ pass_of_worker worker → GaveBack workers rest before after others more
back-more workers left rest worker before now after gate others passes more pass so_far next gates_are passes_are gate_is pass_is =
    record {
      done = so_far.done ++ worker ∷ [];
      parts = so_far.parts ∙ ap (λ ws. so_far.done ++ ws) next ∙ sym (append_assoc so_far.done (worker ∷ []) rest);
      gates =
          gates_are ∙ ap (λ gs. gs ++ gate ∷ []) so_far.gates
          ∙ append_assoc before (map (λ (w : WorkerState). w.gate) so_far.done) (gate ∷ [])
          ∙ ap (λ g. before ++ (map (λ (w : WorkerState). w.gate) so_far.done ++ g ∷ [])) gate_is
          ∙ ap (λ gs. before ++ gs) (sym (map-append (λ (w : WorkerState). w.gate) so_far.done (worker ∷ [])));
      back =
          passes_are ∙ ap (λ ps. ps ++ pass ∷ []) so_far.back
          ∙ append_assoc others (map pass_of_worker so_far.done) (pass ∷ [])
          ∙ ap (λ p. others ++ (map pass_of_worker so_far.done ++ p ∷ [])) pass_is
          ∙ ap (λ ps. others ++ ps) (sym (map-append pass_of_worker so_far.done (worker ∷ [])));
    }

-- a gate that was the first of those that are to come back is the last one that did
pub moved_back : {G : Type 0} (gates more : List G) (left rest : List (WorkerWithGate G)) (worker : WorkerWithGate G) (gate : G) (all : List G) →
    gates ++ gates_of left ≡ all → left ≡ worker ∷ rest → gate ≡ worker.gate → more ≡ gates ++ gate ∷ [] → more ++ gates_of rest ≡ all
moved_back {G} gates more left rest worker gate all so_far next is more_are =
    ap (λ (gs : List G). gs ++ gates_of rest) more_are
    ∙ append_assoc gates (gate ∷ []) (gates_of rest)
    ∙ ap (λ (g : G). gates ++ g ∷ gates_of rest) is
    ∙ ap (λ (ws : List (WorkerWithGate G)). gates ++ gates_of ws) (sym next)
    ∙ so_far

-- all came back
pub back-end : (workers left : List WorkerState) (before after : List GateState) (others passes : List PassView) →
    GaveBack workers left before after others passes → left ≡ [] →
    (after ≡ before ++ map (λ (worker : WorkerState). worker.gate) workers) × (passes ≡ others ++ map pass_of_worker workers)
back-end workers left before after others passes all none =
    let done : all.done ≡ workers = sym (append-nil all.done) ∙ ap (λ ws. all.done ++ ws) (sym none) ∙ sym all.parts in (
      all.gates ∙ ap (λ (ws : List WorkerState). before ++ map (λ (worker : WorkerState). worker.gate) ws) done,
      all.back ∙ ap (λ (ws : List WorkerState). others ++ map pass_of_worker ws) done,
    )

-- so many gates come back as there were
all_work-length : (befores afters : List WorkerState) → AllWork befores afters → length afters ≡ length befores
all_work-length [] [] work = refl
all_work-length (before ∷ befores) [] work = absurd work
all_work-length [] (after ∷ afters) work = absurd work
all_work-length (before ∷ befores) (after ∷ afters) work = ap suc (all_work-length befores afters work.1)

pub worked_count : (pool : PoolId) (serve : ServeCommand) (before after : List GateState) (why : Why) (passes : List PassView) → HaveWorked pool serve before after why passes →
    length after ≡ length before
worked_count pool serve before after why passes worked =
    ap length worked.gates ∙ length-map worked.workers (λ (worker : WorkerState). worker.gate)
    ∙ all_work-length (new_workers pool.config pool.limits serve 0 before) worked.workers worked.work ∙ length-new_workers pool.config pool.limits serve 0 before

-- ---- the engine is closed

module _ (pool : PoolId) (serve : ServeCommand) (before after : List GateState) (why : Why) (passes : List PassView) (worked : HaveWorked pool serve before after why passes)
    (enough : length before ≤ pool.config.passes) (counted : pool.limits.passes ≡ pool.config.passes) where
  abbrev others : List PassView
  others = new_passes (length before) (pool.config.passes - length before)

  abbrev used : List PassView
  used = map pass_of_worker worked.workers

  module _ (history : List Event) (legal : IsLegal pool.limits history) (ends : All (EndsIn history) passes) where
    all_end : All (EndsIn history) (others ++ used)
    all_end = subst (All (EndsIn history)) worked.back ends

    -- a pass that no worker had made no event
    other_silent : (pass : ℕ) → length before ≤ pass → pass < pool.limits.passes → list_any (λ e. pass_of e == pass) history ≡ false
    other_silent pass high small =
        let n = pass - length before in
        let there : n < pool.config.passes - length before = omega (arith, high, small, counted) in
        let at = get_or-map-range_with_len new_pass (length before) (pool.config.passes - length before) n pass (new_pass pass) there (omega (arith, high)) in
        let contains : Contains others (new_pass pass) =
        (n, omega (arith, there, length-map-range_with_len new_pass (length before) (pool.config.passes - length before)), at) in
        let ended = All-contains (EndsIn history) (others ++ used) (new_pass pass) all_end (Contains-append_left others used (new_pass pass) contains) in
        ap (list_any (λ e. pass_of e == pass)) ended.whole ∙ ended.silent

    pub of_workers : All (λ e. pass_of e < length before) history
    of_workers = of_first_passes pool.limits (length before) history legal other_silent

    -- the history goes on from what each worker has seen
    fronts : (workers : List WorkerState) → All (EndsIn history) (map pass_of_worker workers) → All (λ (worker : WorkerState). IsFrontOf worker.caller.pass worker.front history) workers
    fronts [] ended = All-nil (λ (worker : WorkerState). IsFrontOf worker.caller.pass worker.front history)
    fronts (worker ∷ workers) ended =
        All-cons (λ (w : WorkerState). IsFrontOf w.caller.pass w.front history) worker workers
        (All-head (EndsIn history) (pass_of_worker worker) (map pass_of_worker workers) ended)
        (fronts workers (All-tail (EndsIn history) (pass_of_worker worker) (map pass_of_worker workers) ended))

    used_end : All (EndsIn history) used
    used_end k d small =
        let pass = slice_index_or used k d in
        All-contains (EndsIn history) (others ++ used) pass all_end (Contains-append_right others used pass (k, small, search rules))

    pub workers_end : All (λ (worker : WorkerState). IsFrontOf worker.caller.pass worker.front history) worked.workers
    workers_end = fronts worked.workers used_end

-- so the gates were served
module _ {G C : Type 0} (gate : Gate.Ghosts G C) (source : Source.Ghosts C) (sink : Sink.Ghosts C) where
  pub has_served : (pool : PoolId) (config : Config) (serve : ServeCommand) (gates laters : List G) (why : Why) (passes : List PassView)
      (closed : ClosedState) → pool.limits ≡ limits_by config → pool.config ≡ config → pool.limits.passes ≡ pool.config.passes →
      length (told_by gate source sink gates) ≤ pool.config.passes →
      HaveWorkedInTurns gate source sink pool serve gates laters why passes →
      IsLegal pool.limits closed.history → MovesAreCaused closed.history → IsSound pool.config closed.history → All (EndsIn closed.history) passes →
      EndsOpenServeInTurns gate source sink config serve gates laters why (Some closed)
  has_served pool config serve gates laters why passes closed limits_are config_is counted enough did legal caused sound ends =
      let before = told_by gate source sink gates in
      let after = told_by gate source sink laters in
      let worked = did.worked in
      let all : WorkInTurns gate source sink (new_workers config (limits_by config) serve 0 before) worked.workers gates laters =
      subst (λ (k : Config). WorkInTurns gate source sink (new_workers k (limits_by config) serve 0 before) worked.workers gates laters)
      config_is
      (subst (λ (l : Limits). WorkInTurns gate source sink (new_workers pool.config l serve 0 before) worked.workers gates laters)
      limits_are (record { work = worked.work; turns = did.in_turns })) in
      record {
        ends = record {
          legal = subst (λ (l : Limits). IsLegal l closed.history) limits_are legal;
          caused = caused;
          sound = subst (λ (k : Config). IsSound k closed.history) config_is sound;
          passes = of_workers pool serve before after why passes worked enough counted closed.history legal ends;
          workers = worked.workers;
          work = all.work;
          fronts = workers_end pool serve before after why passes worked enough counted closed.history legal ends;
          gates = worked.gates;
          cause = worked.cause;
        };
        in_turns = all.turns;
      }
