use Rattle.load_laws.proofs.WorkersAnswered.{worker_is_answered}
use Rattle.load_laws.proofs.workers.workers_are_answered_as_told.Goals as goal

pub returns : goal.returns
returns c = worker_is_answered
