use Rattle.std.proofs.Common.{sym, subst, map}
use Rattle.std.specs.List.Sorted.{IsStrictlySortedBy}
use Rattle.funnel_model.specs.Listed.{IsInByteOrder, listed_pair}
use Rattle.index_tests.proofs.scans.otter.Goals as goal

pub new-requires : goal.new-requires
unfolding IsStrictlySortedBy
new-requires c = subst (λ items. IsInByteOrder (map listed_pair items)) (sym c.in_ok-vec.ensures.items) (tt, tt)
