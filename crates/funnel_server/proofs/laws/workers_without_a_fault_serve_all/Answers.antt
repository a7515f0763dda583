use Rattle.funnel_server.proofs.Ends.{none_left, serve_all}
use Rattle.funnel_server.proofs.laws.workers_without_a_fault_serve_all.Goals as goal

pub returns-clause-first : goal.returns-clause-first
returns-clause-first c = serve_all

pub returns-clause-none : goal.returns-clause-none
returns-clause-none c = none_left
