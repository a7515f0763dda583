use Rattle.std.proofs.Common.{arith}
use Rattle.std.proofs.lemmas.Grind.{common_steps}
use Rattle.funnel_stats.proofs.EntryLemmas.{length-entries}
use Rattle.funnel_stats.proofs.numbers.quantity_of.Goals as goal

pub returns-in-Words : goal.returns-in-Words
returns-in-Words c = grind (arith, common_steps, length-entries)
