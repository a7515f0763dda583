use Rattle.std.proofs.Common.{◌≡◌, ◌≤◌, ◌+◌, ◌++◌, length, vec_capacity}
use Rattle.std.specs.Vec.Iter.{into_iter_items}
use Rattle.funnel.specs.Workers.{gates_of, states_of, told_by}
use Rattle.funnel.proofs.Equipped.{GaveBack}
use Rattle.funnel.proofs.serving.take_back.Given as goal

abbrev pub invariant-loop-worker : goal.invariant-loop-worker
invariant-loop-worker g l =
    let states = told_by g.G.Gate g.G.Conn.Source g.G.Conn.Sink in
    GaveBack (states_of l.fn.workers.items) (states_of (into_iter_items l.worker-iterator)) (states l.fn.gates.items) (states l.gates.items) l.fn.passes.items l.passes.items
    × (l.gates.items ++ gates_of (into_iter_items l.worker-iterator) ≡ l.fn.gates.items ++ gates_of l.fn.workers.items)
    × (length l.gates.items + length (into_iter_items l.worker-iterator) ≤ vec_capacity l.gates)
    × (length l.passes.items + length (into_iter_items l.worker-iterator) ≤ vec_capacity l.passes)
