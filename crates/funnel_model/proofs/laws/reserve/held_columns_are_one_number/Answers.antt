use Rattle.funnel_model.proofs.ReserveLemmas.{one_held_count, some_held_count}
use Rattle.funnel_model.proofs.laws.reserve.held_columns_are_one_number.Goals as goal

pub returns-clause-some : goal.returns-clause-some
returns-clause-some c = some_held_count

pub returns-clause-one : goal.returns-clause-one
returns-clause-one c = one_held_count
