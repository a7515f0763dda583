use Rattle.load_laws.proofs.LoneSteps.{adds}
use Rattle.load_laws.proofs.lone_pass.adds_are_committed.Goals as goal

pub returns : goal.returns
returns c = adds
