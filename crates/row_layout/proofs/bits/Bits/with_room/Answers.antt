use Rattle.std.proofs.Common.{ap}
use Rattle.row_layout.specs.DocumentBits.{in_order}
use Rattle.row_layout.proofs.bits.Bits.with_room.Goals as goal

pub returns-clause-empty : goal.returns-clause-empty
unfolding in_order
returns-clause-empty c = ap in_order c.in_ok-with_capacity.ensures.items
