use Rattle.funnel_model.proofs.ReserveLemmas.{full_where_none_ready}
use Rattle.funnel_model.proofs.laws.reserve.full_engines_have_no_ready_column.Goals as goal

pub returns : goal.returns
returns c = full_where_none_ready
