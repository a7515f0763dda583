use Rattle.std.proofs.Common.{sym, subst, map}
use Rattle.std.specs.List.Sorted.{IsStrictlySortedBy}
use Rattle.funnel_model.specs.Listed.{IsInByteOrder, listed_pair}
use Rattle.pool_tests.proofs.setting.no_words.Goals as goal

pub new-requires-2 : goal.new-requires-2
unfolding IsStrictlySortedBy
new-requires-2 c = subst (λ items. IsInByteOrder (map listed_pair items)) (sym c.new.ensures.items) tt
