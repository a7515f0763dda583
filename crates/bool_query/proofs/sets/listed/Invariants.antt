-- the words of the sets that came so far
use Rattle.std.proofs.Common.{◌≡◌, map, take}
use Rattle.bool_query.specs.WordLists.{together}
use Rattle.bool_query.proofs.sets.listed.Given as goal

abbrev pub invariant-loop-set : goal.invariant-loop-set
invariant-loop-set l = map (λ w. w.now) l.words.items ≡ together (take l.set-index l.sets)
