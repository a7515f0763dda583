use Rattle.std.proofs.Common.{rules, ◌≡◌, ◌++◌, ◌∷◌, [], cond, length, map, not, suc, refl, ap, ◌∙◌, arith, length-append, sym}
use Rattle.std.proofs.lemmas.List.{map-append}
use Rattle.std.specs.Vec.Iter.{into_iter_items}
use Rattle.funnel_server.specs.Gates.{gate_state}
use Rattle.funnel_server.specs.Workers.{WorkerWithGate}
use Rattle.funnel.specs.Workers.{gates_of, pass_of_worker, states_of}
use Rattle.funnel.proofs.ServeRuns.{back-begin, back-more, moved_back}
use Rattle.funnel.proofs.serving.take_back.Goals as goal

pub loop-worker-init : goal.loop-worker-init
loop-worker-init g c =
    let all : c.args.workers.items ≡ into_iter_items c.into_iter-worker-iterator.result = search rules in
    let count = ap length all in (
      back-begin (states_of c.args.workers.items) (states_of (into_iter_items c.into_iter-worker-iterator.result)) _ _ c.args.passes.now.items c.args.passes.now.items (ap states_of all) refl refl,
      ap (λ ws. c.args.gates.now.items ++ gates_of ws) (sym all),
      omega (arith, count, c.requires.room_of_gates),
      omega (arith, count, c.requires.room_of_passes),
    )

pub loop-worker-preserved : goal.loop-worker-preserved
loop-worker-preserved g c =
    let state = gate_state g.G.Gate g.G.Conn.Source g.G.Conn.Sink in
    let pass = c.client.inside.pass in
    let worker = c.in-Some.worker in
    let next : into_iter_items c.loop-worker.worker-iterator ≡ worker ∷ into_iter_items c.next.new.self = search rules in
    let gates : c.push.new.self.items ≡ c.loop-worker.gates.items ++ c.worker.inside.gate ∷ [] =
    c.push.ensures.items ∙ ap (λ ok. cond ok (c.loop-worker.gates.items ++ c.worker.inside.gate ∷ []) c.loop-worker.gates.items) (c.is_err.ensures.negation ∙ ap not c.if-is_err.false) in
    let passes : c.push-else-is_err.new.self.items ≡ c.loop-worker.passes.items ++ pass ∷ [] =
    c.push-else-is_err.ensures.items ∙ ap (λ ok. cond ok (c.loop-worker.passes.items ++ pass ∷ []) c.loop-worker.passes.items) (c.is_err-else-is_err.ensures.negation ∙ ap not c.if-is_err-2.false) in
    let pass_is : pass ≡ pass_of_worker worker.state = c.client.view_is ∙ ap (λ (w : WorkerWithGate _). pass_of_worker w.state) c.worker.view_is in
    let fewer : length (into_iter_items c.loop-worker.worker-iterator) ≡ suc (length (into_iter_items c.next.new.self)) = ap length next in
    let more_gates = ap length gates ∙ length-append c.loop-worker.gates.items (c.worker.inside.gate ∷ []) in
    let more_passes = ap length passes ∙ length-append c.loop-worker.passes.items (pass ∷ []) in (
      back-more (states_of c.args.workers.items) (states_of (into_iter_items c.loop-worker.worker-iterator)) (states_of (into_iter_items c.next.new.self)) worker.state _ (map state c.loop-worker.gates.items) _
          (state c.worker.inside.gate) c.args.passes.now.items c.loop-worker.passes.items c.push-else-is_err.new.self.items pass
          c.loop-worker.invariant.0 (ap states_of next) (ap (map state) gates ∙ map-append state c.loop-worker.gates.items (c.worker.inside.gate ∷ [])) passes
          (ap (λ (w : WorkerWithGate _). w.state.gate) c.worker.view_is) pass_is,
      moved_back c.loop-worker.gates.items c.push.new.self.items (into_iter_items c.loop-worker.worker-iterator) (into_iter_items c.next.new.self) worker c.worker.inside.gate _
          c.loop-worker.invariant.1 next (ap (λ (w : WorkerWithGate _). w.gate) c.worker.view_is) gates,
      omega (arith, fewer, more_gates, c.push.ensures.capacity, c.loop-worker.invariant.2),
      omega (arith, fewer, more_passes, c.push-else-is_err.ensures.capacity, c.loop-worker.invariant.3),
    )
