use Rattle.funnel_model.proofs.Retirement.{not_cleared_under_reader}
use Rattle.funnel_model.proofs.laws.clears.no_slice_is_cleared_under_a_reader.Goals as goal

pub returns : goal.returns
returns c = not_cleared_under_reader
