use Rattle.std.proofs.Common.{◌≡◌, ◌*◌, ◌^◌}
use Rattle.shard_set.specs.Parts.{shard_for}
use Rattle.shard_set.proofs.parting.shard_for.Given as goal

abbrev pub invariant-loop-k : goal.invariant-loop-k
invariant-loop-k l = (l.least ≡ 2 * 4 ^ l.k) × (l.shard ≡ shard_for l.k l.words)
