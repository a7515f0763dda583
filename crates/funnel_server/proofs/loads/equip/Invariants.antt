use Rattle.std.proofs.Common.{◌≡◌, ◌≤◌, ◌-◌, ◌++◌, length, reverse, vec_capacity}
use Rattle.funnel_server.specs.Parts.{passes_of}
use Rattle.funnel_server.proofs.loads.equip.Given as goal

abbrev pub invariant-loop-alloc : goal.invariant-loop-alloc
invariant-loop-alloc g l =
    (passes_of l.loaders.items ++ reverse l.passes.items ≡ l.fn.passes.items)
    × (length l.loaders.items ≤ l.workers) × (l.workers ≤ vec_capacity l.loaders)
    × (vec_capacity l.passes ≡ vec_capacity l.fn.passes)

abbrev pub decreases-loop-alloc : goal.decreases-loop-alloc
decreases-loop-alloc g l = l.workers - length l.loaders.items
