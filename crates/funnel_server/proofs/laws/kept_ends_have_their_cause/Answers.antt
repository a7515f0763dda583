use Rattle.funnel_server.proofs.Ends.{kept_ends}
use Rattle.funnel_server.proofs.laws.kept_ends_have_their_cause.Goals as goal

pub returns : goal.returns
returns c = kept_ends
