use Rattle.session.proofs.TurnLaws.{replies_due}
use Rattle.session.proofs.laws.replies_come_after_their_lines.Goals as goal

pub returns : goal.returns
returns c = replies_due
