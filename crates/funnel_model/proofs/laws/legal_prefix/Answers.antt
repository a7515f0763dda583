use Rattle.funnel_model.proofs.Histories.{legal_before}
use Rattle.funnel_model.proofs.laws.legal_prefix.Goals as goal

pub returns : goal.returns
returns c = legal_before
