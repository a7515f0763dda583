use Rattle.std.proofs.Common.{rules, ◌≡◌, ◌<◌, ◌≤◌, ◌-◌, ◌++◌, refl, cond, length, vec_capacity, sym, ap, ap₂, ◌∙◌, subst, arith}
use Rattle.std.proofs.lemmas.List.FromFn.{length-map-range_with_len}
use Rattle.std.specs.List.{All, AllZip, list_any}
use Rattle.engine.specs.Passes.{new_pass}
use Rattle.funnel_server.specs.Gates.{gate_state}
use Rattle.funnel_server.specs.GateTurns.{WorksInTurns}
use Rattle.funnel_server.specs.Workers.{HasMetNoFault, WorkerState, WorkerWithGate}
use Rattle.funnel.specs.declared.ends.Why.TheVariants as why_of
use Rattle.funnel.specs.ServeRuns.{why_of_workers}
use Rattle.funnel.specs.Workers.{gates_of, states_of}
use Rattle.std.proofs.lemmas.List.{length-map}
use Rattle.funnel.proofs.ServeRuns.{all_ready, all_with_gate, any_of_states, as_many, have_worked, workers_count}
use Rattle.funnel.proofs.serving.answer_all.Goals as goal

pub run_workers-workers-requires-clause-ready : goal.run_workers-workers-requires-clause-ready
run_workers-workers-requires-clause-ready g c κs within =
    all_with_gate c.equip.new.workers.items (subst (All HasMetNoFault) (sym c.equip.ensures.workers) (all_ready g.N.PoolName.pool.config g.N.PoolName.pool.limits c.args.serve 0 _))

pub take_back-requires-clause-room_of_gates : goal.take_back-requires-clause-room_of_gates
take_back-requires-clause-room_of_gates g c =
    let fits : length c.args.gates.items ≤ vec_capacity c.args.gates = search rules in
    let count = workers_count (gate_state g.G.Gate g.G.Conn.Source g.G.Conn.Sink) g.N.PoolName.pool.config g.N.PoolName.pool.limits c.args.serve c.args.gates.items (states_of c.equip.new.workers.items) (states_of c.run_workers-workers.result.0.items) c.equip.ensures.workers (as_many c.equip.new.workers.items c.run_workers-workers.result.0.items c.run_workers-workers.ensures.all) in
    omega (arith, fits, count, length-map c.run_workers-workers.result.0.items (λ (worker : WorkerWithGate _). worker.state), ap length c.equip.ensures.gates.none_left, c.equip.ensures.room.0)

pub take_back-requires-clause-room_of_passes : goal.take_back-requires-clause-room_of_passes
take_back-requires-clause-room_of_passes g c =
    let passes = g.N.PoolName.pool.config.passes in
    let fits : length c.args.passes.items ≤ vec_capacity c.args.passes = search rules in
    let all = ap length c.requires.new ∙ length-map-range_with_len new_pass 0 passes in
    let left = ap length c.equip.ensures.passes ∙ length-map-range_with_len new_pass (length c.args.gates.items) (passes - length c.args.gates.items) in
    let count = workers_count (gate_state g.G.Gate g.G.Conn.Source g.G.Conn.Sink) g.N.PoolName.pool.config g.N.PoolName.pool.limits c.args.serve c.args.gates.items (states_of c.equip.new.workers.items) (states_of c.run_workers-workers.result.0.items) c.equip.ensures.workers (as_many c.equip.new.workers.items c.run_workers-workers.result.0.items c.run_workers-workers.ensures.all) in
    omega (arith, fits, count, length-map c.run_workers-workers.result.0.items (λ (worker : WorkerWithGate _). worker.state), all, left, c.requires.enough, c.equip.ensures.room.1)

pub returns-in-Ok-clause-worked : goal.returns-in-Ok-clause-worked
returns-in-Ok-clause-worked g c =
    let workers = c.run_workers-workers.result.0.items in
    let why : c.why_of_workers-why.result ≡ cond (list_any (λ (w : WorkerWithGate _). w.state.fault) workers) why_of.GateFault
    (cond (list_any (λ (w : WorkerWithGate _). w.state.memory) workers) why_of.Memory why_of.Done) = search rules in
    let cause : c.why_of_workers-why.result ≡ why_of_workers (states_of workers) =
    why ∙ ap₂ (λ fault memory. cond fault why_of.GateFault (cond memory why_of.Memory why_of.Done))
    (any_of_states (λ (w : WorkerState). w.fault) workers) (any_of_states (λ (w : WorkerState). w.memory) workers) in
    let work : AllZip (WorksInTurns g.G.Gate g.G.Conn.Source g.G.Conn.Sink) c.equip.new.workers.items workers = search rules in
    have_worked g.G.Gate g.G.Conn.Source g.G.Conn.Sink g.N.PoolName.pool c.args.serve
    c.args.gates.items c.equip.new.gates.items c.take_back.new.gates.items c.why_of_workers-why.result c.equip.new.passes.items c.take_back.new.passes.items
    c.equip.new.workers.items workers c.equip.ensures.workers c.equip.ensures.gates.theirs c.equip.ensures.gates.none_left
    c.equip.ensures.passes work c.take_back.ensures.told c.take_back.ensures.gates cause
    c.take_back.ensures.passes

pub returns-in-Err-clause-untouched : goal.returns-in-Err-clause-untouched
returns-in-Err-clause-untouched g c =
    let same : c.run_workers-workers.result.0.items ≡ c.equip.new.workers.items = search rules in
    c.take_back.ensures.gates
    ∙ ap (λ gates. gates ++ gates_of c.run_workers-workers.result.0.items) c.equip.ensures.gates.none_left
    ∙ ap gates_of same
    ∙ c.equip.ensures.gates.theirs

pub returns-in-Err-clause-named : goal.returns-in-Err-clause-named
returns-in-Err-clause-named g c =
    let gates = c.args.gates.items in
    let below : c.in-Err.lacking.worker < length c.equip.new.workers.items = search rules in
    let count = workers_count (gate_state g.G.Gate g.G.Conn.Source g.G.Conn.Sink) g.N.PoolName.pool.config g.N.PoolName.pool.limits c.args.serve gates
    (states_of c.equip.new.workers.items) (states_of c.equip.new.workers.items) c.equip.ensures.workers refl in
    omega (arith, below, count, length-map c.equip.new.workers.items (λ (worker : WorkerWithGate _). worker.state))
