use Rattle.load_laws.proofs.Unmoved.{lone_load_moves_nothing}
use Rattle.load_laws.proofs.whole_load.loads_move_nothing.Goals as goal

pub returns : goal.returns
returns c = lone_load_moves_nothing
