use Rattle.funnel_model.proofs.Retirement.{full_has_no_room}
use Rattle.funnel_model.proofs.laws.full_engines_have_no_room.Goals as goal

pub returns : goal.returns
returns c = full_has_no_room
