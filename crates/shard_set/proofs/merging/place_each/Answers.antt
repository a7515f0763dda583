use Rattle.std.proofs.Common.{arith}
use Rattle.std.proofs.lemmas.Grind.{common_steps}
use Rattle.std.proofs.lemmas.List.Elements.{filter_map-append}
use Rattle.shard_set.proofs.merging.place_each.Goals as goal
use Rattle.shard_set.proofs.merging.place_each.Goals.{in-Some, in_default}

pub loop-id-preserved : goal.loop-id-preserved
loop-id-preserved c = elim c.match-get.branch [ in-Some w ↦ grind (arith, common_steps, filter_map-append) | in_default w ↦ grind (arith, common_steps, filter_map-append) ]
