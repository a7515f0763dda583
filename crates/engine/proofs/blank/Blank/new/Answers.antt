use Rattle.std.proofs.Common.{◌*◌, ◌≤◌, sym, subst}
use Rattle.engine.proofs.Sizes.{some_words}
use Rattle.engine.proofs.blank.Blank.new.Goals as goal

pub new-requires-clause-rows : goal.new-requires-clause-rows
new-requires-clause-rows c =
    let config = c.args.config.now in
    subst (λ n. 1 ≤ config.slices * n) (sym c.sizes-slice_words.ensures.slice_words) (some_words config c.requires.valid.in_range)
