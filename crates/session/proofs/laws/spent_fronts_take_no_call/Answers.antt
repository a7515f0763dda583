use Rattle.session.proofs.SessionLaws.{takes_none}
use Rattle.session.proofs.laws.spent_fronts_take_no_call.Goals as goal

pub returns : goal.returns
returns c = takes_none
