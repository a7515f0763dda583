use Rattle.load_laws.proofs.OneLoad.{load_fits}
use Rattle.load_laws.proofs.whole_load.loads_fit.Goals as goal

pub returns : goal.returns
returns c = load_fits
