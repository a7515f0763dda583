use Rattle.load_laws.proofs.Meetings.{parts_of_met}
use Rattle.load_laws.proofs.workers.workers_that_meet_keep_to_the_parts.Goals as goal

pub returns : goal.returns
returns c = parts_of_met
