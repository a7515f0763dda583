use Rattle.funnel_model.proofs.SliceSetLemmas.{lowest_bit_is}
use Rattle.funnel_model.proofs.slice_set.lowest_bit.Goals as goal

pub returns : goal.returns
returns c = lowest_bit_is c.args.word c.requires c.ranges.word.fits
