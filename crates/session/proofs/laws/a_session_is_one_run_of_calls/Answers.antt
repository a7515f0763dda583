use Rattle.session.proofs.SessionLaws.{runs_calls}
use Rattle.session.proofs.laws.a_session_is_one_run_of_calls.Goals as goal

pub returns : goal.returns
returns c = runs_calls
