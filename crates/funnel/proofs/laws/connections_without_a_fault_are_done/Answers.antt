use Rattle.funnel.proofs.ServedGates.{connections_are_done}
use Rattle.funnel.proofs.laws.connections_without_a_fault_are_done.Goals as goal

pub returns : goal.returns
returns c = connections_are_done
