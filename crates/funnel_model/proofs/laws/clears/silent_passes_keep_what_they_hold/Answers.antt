use Rattle.funnel_model.proofs.Clears.{clearing_stays, pending_stays, read_stays, token_stays}
use Rattle.funnel_model.proofs.laws.clears.silent_passes_keep_what_they_hold.Goals as goal

pub returns-clause-pending : goal.returns-clause-pending
returns-clause-pending c = pending_stays

pub returns-clause-clearing : goal.returns-clause-clearing
returns-clause-clearing c = clearing_stays

pub returns-clause-token : goal.returns-clause-token
returns-clause-token c = token_stays

pub returns-clause-reads : goal.returns-clause-reads
returns-clause-reads c limits front history pass slice legal goes read = (read_stays limits front history pass slice legal goes read).1
