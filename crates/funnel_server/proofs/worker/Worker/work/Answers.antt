use Rattle.std.proofs.Common.{◌≡◌, map, ap, sym, ◌∙◌, subst}
use Rattle.std.specs.Option.{option_map}
use Rattle.engine.specs.Clients.{caller_of}
use Rattle.funnel_server.specs.Gates.{GateState, gate_state, sides_of}
use Rattle.funnel_server.specs.Workers.{WorkerState, WorkerWithGate}
use Rattle.funnel_server.proofs.GateTurns.{ends_in_turns}
use Rattle.funnel_server.proofs.worker.Worker.work.Goals as goal

pub returns : goal.returns
returns g c =
    let state = gate_state g.G.Gate g.G.Conn.Source g.G.Conn.Sink in
    let gate : state c.self.inside.gate ≡ state c.end.new.self = λ i. record {
      is_closed = sym c.end.ensures.is_closed i;
      faults = sym c.end.ensures.faults i;
      waiting = option_map (map (sides_of g.G.Conn.Source g.G.Conn.Sink)) (sym c.end.ensures.waiting i);
      served = sym c.end.ensures.served i;
    } in
    let worker : GateState → WorkerState = λ told. record {
      gate = told;
      caller = caller_of g.N.PoolName.pool.config g.N.PoolName.pool.limits c.self.inside.client;
      front = c.self.inside.client.front;
      http = c.self.inside.http;
      left = c.self.inside.left;
      fault = c.self.inside.fault;
      memory = c.self.inside.memory;
    } in
    ends_in_turns g.G.Gate g.G.Conn.Source g.G.Conn.Sink
    _ _ _ c.serve_all.ensures (sym (ap (λ (w : WorkerWithGate _). w.state) c.self.view_is) ∙ ap worker gate)
    (subst (λ (w : WorkerWithGate _). g.G.Gate.end_gives w.gate c.end.new.self) c.self.view_is c.end.ensures.gives)
