use Rattle.std.proofs.Common.{arith}
use Rattle.funnel_model.specs.declared.event.Event.TheVariants as event
use Rattle.pool_tests.specs.Cleared.{finding}
use Rattle.pool_tests.proofs.Cleared.{finding_length, room_after, allowed_at, end_allowed}
use Rattle.pool_tests.proofs.clearing.end_find.Goals as goal

pub make_event-requires-clause-allowed : goal.make_event-requires-clause-allowed
make_event-requires-clause-allowed c =
    allowed_at c.args.pool.now.limits c.args.home.now.history finding (event.End 0) c.requires.at.sizes c.requires.at.history end_allowed

pub make_event-requires-clause-room : goal.make_event-requires-clause-room
make_event-requires-clause-room c = room_after c.args.home.now.history finding 133 c.requires.at.history finding_length (omega arith)
