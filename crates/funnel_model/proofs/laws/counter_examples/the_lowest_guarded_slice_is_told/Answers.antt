use Rattle.std.proofs.Common.{arith}
use Rattle.funnel_model.proofs.RecycleFacts.{low_guarded}
use Rattle.funnel_model.proofs.laws.counter_examples.the_lowest_guarded_slice_is_told.Goals as goal

pub returns : goal.returns
returns c is = is.lowest 0 (omega arith) low_guarded.retired
