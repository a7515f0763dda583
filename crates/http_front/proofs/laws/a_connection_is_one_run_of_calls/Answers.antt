use Rattle.http_front.proofs.RunLaws.{runs_calls}
use Rattle.http_front.proofs.laws.a_connection_is_one_run_of_calls.Goals as goal

pub returns : goal.returns
returns c = runs_calls
