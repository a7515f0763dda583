-- The table has the kind.
use Rattle.word_cut.proofs.KindLemmas.{kinds_are_right}
use Rattle.word_cut.proofs.kind.kind_of.Goals as goal

pub returns : goal.returns
returns c = kinds_are_right c.args.byte c.requires
