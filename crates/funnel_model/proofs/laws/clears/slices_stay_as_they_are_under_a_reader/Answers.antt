use Rattle.funnel_model.proofs.Clears.{read_stays}
use Rattle.funnel_model.proofs.laws.clears.slices_stay_as_they_are_under_a_reader.Goals as goal

pub returns-clause-not_cleared : goal.returns-clause-not_cleared
returns-clause-not_cleared c limits front history pass slice legal goes read = (read_stays limits front history pass slice legal goes read).0

pub returns-clause-not_opened : goal.returns-clause-not_opened
returns-clause-not_opened c limits front history pass slice legal goes read = (read_stays limits front history pass slice legal goes read).2
