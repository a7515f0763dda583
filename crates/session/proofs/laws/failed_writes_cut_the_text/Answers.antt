use Rattle.session.proofs.SessionLaws.{proper_front}
use Rattle.session.proofs.laws.failed_writes_cut_the_text.Goals as goal

pub returns : goal.returns
returns c = proper_front
