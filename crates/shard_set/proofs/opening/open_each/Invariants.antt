use Rattle.std.proofs.Common.{◌≤◌, length, vec_capacity}
use Rattle.std.specs.List.{AllZip}
use Rattle.shard_set.specs.Opening.{IsOpened}
use Rattle.shard_set.proofs.opening.open_each.Given as goal

abbrev pub invariant-loop-config : goal.invariant-loop-config
invariant-loop-config l =
    (goal.iterator-loop-config).can_next l.config-iterator × (goal.iterator-loop-config).is_finite l.config-iterator
    × AllZip IsOpened l.yielded l.shards.items × (length l.fn.configs.items ≤ vec_capacity l.shards)
