use Rattle.funnel_model.proofs.Clears.{not_filled_after_clear}
use Rattle.funnel_model.proofs.laws.clears.slices_being_cleared_are_left_alone.Goals as goal

pub returns : goal.returns
returns c = not_filled_after_clear
