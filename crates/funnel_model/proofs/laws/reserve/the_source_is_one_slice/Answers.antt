use Rattle.funnel_model.proofs.ReserveLemmas.{one_source, one_source_held, some_source}
use Rattle.funnel_model.proofs.laws.reserve.the_source_is_one_slice.Goals as goal

pub returns-clause-some : goal.returns-clause-some
returns-clause-some c = some_source

pub returns-clause-one : goal.returns-clause-one
returns-clause-one c = one_source

pub returns-clause-one_held : goal.returns-clause-one_held
returns-clause-one_held c = one_source_held
