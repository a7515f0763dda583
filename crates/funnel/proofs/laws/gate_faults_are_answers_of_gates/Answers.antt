use Rattle.funnel.proofs.GateFaults.{told_by_gate}
use Rattle.funnel.proofs.laws.gate_faults_are_answers_of_gates.Goals as goal

pub returns : goal.returns
returns g c = told_by_gate g.G.Gate g.G.Conn.Source g.G.Conn.Sink
