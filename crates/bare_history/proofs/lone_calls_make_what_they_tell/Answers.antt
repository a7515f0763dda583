use Rattle.bare_history.proofs.LoneCalls.{lone_step}
use Rattle.bare_history.proofs.lone_calls_make_what_they_tell.Goals as goal

pub returns : goal.returns
returns c = lone_step
