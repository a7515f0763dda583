use Rattle.funnel.proofs.GateFaults.{told_at_opening}
use Rattle.funnel.proofs.laws.gates_that_do_not_open_leave_their_connections.Goals as goal

pub returns : goal.returns
returns c = told_at_opening
