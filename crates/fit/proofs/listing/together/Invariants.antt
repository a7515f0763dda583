use Rattle.std.proofs.Common.{◌≡◌, map, take}
use Rattle.fit.specs.Steps.{ranked}
use Rattle.fit.specs.Tallies.{total}
use Rattle.fit.proofs.listing.together.Given as goal

abbrev pub invariant-loop-count : goal.invariant-loop-count
invariant-loop-count l = l.sum ≡ total (map ranked (take l.count-index l.first))
