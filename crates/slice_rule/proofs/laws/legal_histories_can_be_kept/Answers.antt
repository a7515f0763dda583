use Rattle.slice_rule.proofs.KeptStates.{each_can_be_kept}
use Rattle.slice_rule.proofs.laws.legal_histories_can_be_kept.Goals as goal

pub returns : goal.returns
returns c = each_can_be_kept
