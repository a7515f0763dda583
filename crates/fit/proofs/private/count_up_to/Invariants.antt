use Rattle.std.proofs.Common.{◌≡◌, map, take}
use Rattle.fit.specs.Privates.{count_up_to}
use Rattle.fit.specs.Steps.{ranked}
use Rattle.fit.proofs.private.count_up_to.Given as goal

-- the words that came so far are counted
abbrev pub invariant-loop-count : goal.invariant-loop-count
invariant-loop-count l = l.words ≡ count_up_to l.documents l.last (map ranked (take l.count-index l.first))
