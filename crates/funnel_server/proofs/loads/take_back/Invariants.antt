use Rattle.std.proofs.Common.{◌≡◌, ◌≤◌, ◌+◌, ◌++◌, length, reverse, vec_capacity}
use Rattle.funnel_server.specs.Parts.{passes_of}
use Rattle.funnel_server.proofs.loads.take_back.Given as goal

abbrev pub invariant-loop-loader : goal.invariant-loop-loader
invariant-loop-loader g l =
    (passes_of l.loaders.items ++ reverse l.passes.items ≡ passes_of l.fn.loaders.items ++ reverse l.fn.passes.items)
    × (length l.loaders.items + length l.passes.items ≤ vec_capacity l.passes)

abbrev pub decreases-loop-loader : goal.decreases-loop-loader
decreases-loop-loader g l = length l.loaders.items
