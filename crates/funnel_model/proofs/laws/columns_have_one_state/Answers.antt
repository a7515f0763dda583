use Rattle.funnel_model.proofs.Columns.{one_state, some_state}
use Rattle.funnel_model.proofs.laws.columns_have_one_state.Goals as goal

pub returns-clause-some : goal.returns-clause-some
returns-clause-some c limits history slice column legal = some_state limits history slice column legal

pub returns-clause-one : goal.returns-clause-one
returns-clause-one c limits history slice column state other legal is_state is_other =
    one_state limits history slice column state other legal is_state is_other
