use Rattle.funnel_model.proofs.ReserveLemmas.{one_ready, one_spare, some_ready, some_spare}
use Rattle.funnel_model.proofs.laws.reserve.columns_left_are_one_number.Goals as goal

pub returns-clause-some_spare : goal.returns-clause-some_spare
returns-clause-some_spare c = some_spare

pub returns-clause-one_spare : goal.returns-clause-one_spare
returns-clause-one_spare c = one_spare

pub returns-clause-some_ready : goal.returns-clause-some_ready
returns-clause-some_ready c = some_ready

pub returns-clause-one_ready : goal.returns-clause-one_ready
returns-clause-one_ready c = one_ready
