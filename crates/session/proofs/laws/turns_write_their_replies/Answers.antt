use Rattle.session.proofs.Turns.{turns_write}
use Rattle.session.proofs.laws.turns_write_their_replies.Goals as goal
use Rattle.session.specs.Turns.{line_by_line}

pub returns : goal.returns
returns c = turns_write line_by_line
