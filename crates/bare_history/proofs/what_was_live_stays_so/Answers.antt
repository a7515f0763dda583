use Rattle.bare_history.proofs.BareLemmas.{live_at_last, live_at_stays}
use Rattle.bare_history.proofs.what_was_live_stays_so.Goals as goal

pub returns-clause-stays : goal.returns-clause-stays
returns-clause-stays c = live_at_stays

pub returns-clause-last : goal.returns-clause-last
returns-clause-last c = live_at_last
