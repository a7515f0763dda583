use Rattle.std.specs.List.Sorted.{IsStrictlySortedBy}
use Rattle.index_tests.proofs.plans.no_words.Goals as goal

pub from_sorted-requires : goal.from_sorted-requires
unfolding IsStrictlySortedBy
from_sorted-requires c = tt
