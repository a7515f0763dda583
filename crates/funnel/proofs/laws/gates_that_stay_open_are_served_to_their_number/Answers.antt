use Rattle.funnel.proofs.OpenGates.{open_gates}
use Rattle.funnel.proofs.laws.gates_that_stay_open_are_served_to_their_number.Goals as goal

pub returns : goal.returns
returns c = open_gates
