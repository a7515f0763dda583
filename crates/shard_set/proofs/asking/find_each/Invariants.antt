use Rattle.shard_set.specs.Asking.{HasFound}
use Rattle.shard_set.specs.Calls.{FindsIn}
use Rattle.shard_set.proofs.asking.find_each.Given as goal

abbrev pub invariant-loop-shard : goal.invariant-loop-shard
invariant-loop-shard l = HasFound (FindsIn l.query) l.homes.entries l.fn.shards.items l.shard-index l.shard-items l.found.items
