use Rattle.funnel.proofs.ServedCalls.{calls_of_a_serve}
use Rattle.funnel.proofs.laws.the_calls_of_a_serve_are_those_of_its_sessions.Goals as goal

pub returns : goal.returns
returns c = calls_of_a_serve
