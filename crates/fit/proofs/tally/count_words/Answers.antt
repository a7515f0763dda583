use Rattle.fit.proofs.Counting.{counts-none}
use Rattle.fit.specs.Steps.{entries_of}
use Rattle.fit.proofs.tally.count_words.Goals as goal

pub loop-word-init : goal.loop-word-init
loop-word-init c = counts-none (entries_of c.args.counts.now.entries)
