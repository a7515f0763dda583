use Rattle.std.proofs.Common.{◌≡◌, ◌≤◌, ◌++◌, length, vec_capacity}
use Rattle.funnel.specs.Workers.{gates_of, states_of, told_by}
use Rattle.funnel.proofs.Equipped.{AreEquipped}
use Rattle.funnel.proofs.serving.equip.Given as goal

abbrev pub invariant-loop-alloc : goal.invariant-loop-alloc
invariant-loop-alloc g l =
    let states = told_by g.G.Gate g.G.Conn.Source g.G.Conn.Sink in
    AreEquipped g.N.PoolName.pool l.serve (states l.fn.gates.items) (states l.gates.items) l.passes.items (states_of l.workers.items)
    × (gates_of l.workers.items ++ l.gates.items ≡ l.fn.gates.items)
    × (length l.fn.gates.items ≤ vec_capacity l.workers)
    × (vec_capacity l.gates ≡ vec_capacity l.fn.gates) × (vec_capacity l.passes ≡ vec_capacity l.fn.passes)

abbrev pub decreases-loop-alloc : goal.decreases-loop-alloc
decreases-loop-alloc g l = length l.gates.items
