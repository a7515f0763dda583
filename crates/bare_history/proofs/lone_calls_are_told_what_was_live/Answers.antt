use Rattle.bare_history.proofs.LoneCalls.{lone_absent, lone_found, lone_kept, lone_present}
use Rattle.bare_history.proofs.lone_calls_are_told_what_was_live.Goals as goal

pub returns : goal.returns
returns c = record { present = lone_present; absent = lone_absent; found = lone_found; kept = lone_kept }
