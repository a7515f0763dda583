use Rattle.funnel_server.proofs.Calls.{go_on_by_calls}
use Rattle.funnel_server.proofs.laws.a_workers_calls_are_those_of_its_sessions.Goals as goal

pub returns : goal.returns
returns c = λ before after visits served. go_on_by_calls before.caller before.front after.front visits served.sessions served.in_order
