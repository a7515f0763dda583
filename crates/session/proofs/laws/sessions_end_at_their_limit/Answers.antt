use Rattle.session.proofs.SessionLaws.{at_limit}
use Rattle.session.proofs.laws.sessions_end_at_their_limit.Goals as goal

pub returns : goal.returns
returns c = at_limit
