use Rattle.std.proofs.Common.{◌≤◌, length, vec_capacity}
use Rattle.std.specs.List.{AllZip}
use Rattle.shard_set.specs.Opening.{IsLeftOf}
use Rattle.shard_set.proofs.opening.close_each.Given as goal

abbrev pub invariant-loop-shard : goal.invariant-loop-shard
invariant-loop-shard l =
    (goal.iterator-loop-shard).can_next l.shard-iterator × (goal.iterator-loop-shard).is_finite l.shard-iterator
    × AllZip IsLeftOf l.yielded l.left.items × (length l.fn.shards.items ≤ vec_capacity l.left)
