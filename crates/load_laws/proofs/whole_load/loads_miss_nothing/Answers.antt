use Rattle.load_laws.proofs.OneLoad.{load_answers}
use Rattle.load_laws.proofs.whole_load.loads_miss_nothing.Goals as goal

pub returns : goal.returns
returns c = load_answers
