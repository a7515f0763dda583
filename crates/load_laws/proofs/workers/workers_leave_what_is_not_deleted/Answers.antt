use Rattle.load_laws.proofs.LeftOver.{load_leaves}
use Rattle.load_laws.proofs.workers.workers_leave_what_is_not_deleted.Goals as goal

pub returns : goal.returns
returns c = load_leaves
