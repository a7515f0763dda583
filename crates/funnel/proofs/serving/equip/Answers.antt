use Rattle.std.proofs.Common.{rules, ◌≡◌, ◌++◌, ◌∷◌, [], ◌<◌, length, false, ap, refl, ◌∙◌}
use Rattle.engine.specs.Clients.{caller_of}
use Rattle.funnel_server.specs.Gates.{gate_state}
use Rattle.funnel_server.specs.Workers.{WorkerState, WorkerWithGate}
use Rattle.std.proofs.lemmas.List.{map-append}
use Rattle.funnel.specs.Workers.{states_of}
use Rattle.funnel.proofs.ServeRuns.{equip-more, moved_on}
use Rattle.funnel.proofs.serving.equip.Goals as goal

pub loop-alloc-preserved : goal.loop-alloc-preserved
loop-alloc-preserved g c =
    let some : 0 < length c.loop-alloc.gates.items = search rules in
    let state : WorkerState = record {
      gate = gate_state g.G.Gate g.G.Conn.Source g.G.Conn.Sink c.remove-gate.result;
      caller = caller_of g.N.PoolName.pool.config g.N.PoolName.pool.limits c.remove.result;
      front = c.remove.result.front;
      http = c.args.serve.http;
      left = c.args.serve.connections;
      fault = false;
      memory = false;
    } in
    let worker : WorkerWithGate _ = record { gate = c.remove-gate.result; state = state } in
    let pushed : c.push.new.self.items ≡ c.loop-alloc.workers.items ++ worker ∷ [] = search rules in
    let more : states_of c.push.new.self.items ≡ states_of c.loop-alloc.workers.items ++ state ∷ [] =
    ap states_of pushed ∙ map-append (λ (w : WorkerWithGate _). w.state) c.loop-alloc.workers.items (worker ∷ []) in (
      equip-more (gate_state g.G.Gate g.G.Conn.Source g.G.Conn.Sink) g.N.PoolName.pool c.args.serve
          c.args.gates.now.items c.loop-alloc.gates.items c.remove-gate.new.self.items c.remove-gate.result c.loop-alloc.passes.items c.remove.new.self.items c.remove.result
          (states_of c.loop-alloc.workers.items) (states_of c.push.new.self.items) state c.loop-alloc.invariant.0 c.requires.enough some
          c.remove-gate.ensures.value c.remove-gate.ensures.items c.remove.ensures.value c.remove.ensures.items refl more,
      moved_on c.loop-alloc.workers.items c.push.new.self.items worker c.loop-alloc.gates.items c.remove-gate.new.self.items _ c.loop-alloc.invariant.1 some
          c.remove-gate.ensures.value c.remove-gate.ensures.items pushed,
      search rules,
      search rules,
      search rules,
    )
