use Rattle.funnel.proofs.ServedGates.{gates_without_a_fault}
use Rattle.funnel.proofs.laws.gates_without_a_fault_are_served.Goals as goal

pub returns : goal.returns
returns c = gates_without_a_fault
