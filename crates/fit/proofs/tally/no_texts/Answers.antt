use Rattle.fit.proofs.Counting.{counted_none}
use Rattle.fit.proofs.tally.no_texts.Goals as goal

pub returns : goal.returns
returns c = rw c.new.ensures.empty counted_none
