use Rattle.std.proofs.Common.{arith}
use Rattle.funnel_model.proofs.SizesLemmas.{slice_within_pool}
use Rattle.row_layout.proofs.layout.Layout.new.Goals as goal

pub overflow_cast-room : goal.overflow_cast-room
overflow_cast-room c =
    omega (arith, c.sizes-sizes.ensures.slice_words, slice_within_pool c.args.config.now c.requires.in_range.slices.0, c.requires.small_pool)
