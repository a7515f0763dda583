use Rattle.load_laws.proofs.Meetings.{met_all}
use Rattle.load_laws.proofs.workers.workers_that_meet_at_last_have_seen_all.Goals as goal

pub returns : goal.returns
returns c = met_all
