use Rattle.std.specs.List.Sorted.{IsStrictlySortedBy}
use Rattle.engine.proofs.reading.no_words.Goals as goal

pub new-requires-2 : goal.new-requires-2
unfolding IsStrictlySortedBy
new-requires-2 c = rw c.new.ensures.items tt
