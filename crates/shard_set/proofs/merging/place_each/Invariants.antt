use Rattle.std.proofs.Common.{◌≡◌, ◌+◌, ◌≤◌, ◌++◌, length, take, vec_capacity, vec_len}
use Rattle.std.specs.List.{filter_map}
use Rattle.shard_set.specs.Merging.{placed}
use Rattle.shard_set.proofs.merging.place_each.Given as goal

abbrev pub invariant-loop-id : goal.invariant-loop-id
invariant-loop-id l = (l.found.items ≡ l.fn.found.items ++ filter_map (placed l.homes.entries) (take l.id-index l.ids))
    × (vec_len l.found + length l.ids ≤ vec_capacity l.found + l.id-index)
