use Rattle.funnel_model.proofs.ReplyLemmas.{tuned_cause}
use Rattle.funnel_model.proofs.laws.replies.tunings_are_counted.Goals as goal

pub returns : goal.returns
returns c = tuned_cause
