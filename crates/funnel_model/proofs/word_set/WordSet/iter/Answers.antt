-- A walk shows its words in order.
use Rattle.std_collections.specs.Map.Iter.{deref}
use Rattle.std_collections.proofs.IterRuns.{shows_in_order}
use Rattle.funnel_model.proofs.word_set.WordSet.iter.Goals as goal

pub returns-clause-runs : goal.returns-clause-runs
returns-clause-runs c = shows_in_order deref
