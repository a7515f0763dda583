use Rattle.load_laws.proofs.LoneSteps.{finds}
use Rattle.load_laws.proofs.lone_pass.finds_are_answered.Goals as goal

pub returns : goal.returns
returns c = finds
