use Rattle.load_laws.proofs.OneLoad.{load_is_short}
use Rattle.load_laws.proofs.whole_load.loads_are_short.Goals as goal

pub returns : goal.returns
returns c = load_is_short
