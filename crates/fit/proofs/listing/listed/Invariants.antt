use Rattle.std.proofs.Common.{◌≡◌, map, take}
use Rattle.funnel_model.specs.Listed.{listed_pair}
use Rattle.fit.specs.Steps.{ranked}
use Rattle.fit.proofs.listing.listed.Given as goal

abbrev pub invariant-loop-count : goal.invariant-loop-count
invariant-loop-count l = map listed_pair l.entries.items ≡ map ranked (take l.count-index l.first)
