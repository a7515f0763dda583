use Rattle.load_laws.proofs.Unmoved.{load_moves_nothing}
use Rattle.load_laws.proofs.workers.loads_of_workers_move_nothing.Goals as goal

pub returns : goal.returns
returns c = load_moves_nothing
