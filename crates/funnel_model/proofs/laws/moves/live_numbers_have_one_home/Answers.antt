use Rattle.funnel_model.proofs.LiveColumns.{live_has_home, not_put_since, one_home}
use Rattle.funnel_model.proofs.laws.moves.live_numbers_have_one_home.Goals as goal

pub returns-clause-some : goal.returns-clause-some
returns-clause-some c = live_has_home

pub returns-clause-one : goal.returns-clause-one
returns-clause-one c = one_home

pub returns-clause-last : goal.returns-clause-last
returns-clause-last c = not_put_since
