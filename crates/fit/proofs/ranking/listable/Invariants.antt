use Rattle.std.proofs.Common.{◌≡◌, filter, map}
use Rattle.fit.specs.Listings.{may_be_listed}
use Rattle.fit.specs.Steps.{entries_of, ranked}
use Rattle.fit.proofs.ranking.listable.Given as goal

-- of the entries that came so far those are found that may be listed
abbrev pub invariant-loop-word : goal.invariant-loop-word
invariant-loop-word l = map ranked l.found.items ≡ filter (may_be_listed l.documents) (entries_of l.yielded)
