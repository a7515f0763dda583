use Rattle.session.proofs.SessionLaws.{by_count}
use Rattle.session.proofs.laws.sessions_end_by_their_bytes.Goals as goal

pub returns : goal.returns
returns c = by_count
