use Rattle.std.proofs.Common.{[]}
use Rattle.std.specs.List.Sorted.{IsStrictlySortedBy}
use Rattle.funnel_model.specs.Words.{IsRising}
use Rattle.commit_desk_tests.proofs.finding.candidates.Goals as goal

none_rise : IsRising []
unfolding IsStrictlySortedBy
none_rise = tt

pub from_sorted-requires : goal.from_sorted-requires
from_sorted-requires c = none_rise
