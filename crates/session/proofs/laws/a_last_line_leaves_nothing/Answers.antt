use Rattle.session.proofs.SessionLaws.{last_line_answered}
use Rattle.session.proofs.laws.a_last_line_leaves_nothing.Goals as goal

pub returns : goal.returns
returns c = last_line_answered
