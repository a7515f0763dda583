use Rattle.funnel_server.proofs.Ends.{with_memory, without_a_fault}
use Rattle.funnel_server.proofs.laws.sessions_without_a_fault_end_well.Goals as goal

pub returns-clause-ends : goal.returns-clause-ends
returns-clause-ends c = without_a_fault

pub returns-clause-done : goal.returns-clause-done
returns-clause-done c = with_memory
