use Rattle.funnel_model.proofs.SliceSetLemmas.{lowest_from, unset_from}
use Rattle.funnel_model.proofs.slice_set.lowest_bit_from.Goals as goal

pub returns-then-left-eq0 : goal.returns-then-left-eq0
returns-then-left-eq0 c = unset_from c.args.word c.args.from c.if-left-eq0.true

pub returns-else-left-eq0 : goal.returns-else-left-eq0
returns-else-left-eq0 c = lowest_from c.args.word c.args.from c.lowest_bit.result c.ranges.word.fits c.lowest_bit.ensures
