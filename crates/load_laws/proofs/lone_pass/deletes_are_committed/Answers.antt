use Rattle.load_laws.proofs.LoneSteps.{deletes_it}
use Rattle.load_laws.proofs.lone_pass.deletes_are_committed.Goals as goal

pub returns : goal.returns
returns c = deletes_it
