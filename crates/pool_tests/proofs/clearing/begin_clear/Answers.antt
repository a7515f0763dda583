use Rattle.std.proofs.Common.{arith}
use Rattle.funnel_model.specs.declared.event.Event.TheVariants as event
use Rattle.pool_tests.specs.Cleared.{deleted}
use Rattle.pool_tests.proofs.Cleared.{deleted_length, room_after, allowed_at, clear_allowed}
use Rattle.pool_tests.proofs.clearing.begin_clear.Goals as goal

pub make_event-requires-clause-allowed : goal.make_event-requires-clause-allowed
make_event-requires-clause-allowed c =
    allowed_at c.args.pool.now.limits c.args.home.now.history deleted (event.Clear 1 0) c.requires.at.sizes c.requires.at.history clear_allowed

pub make_event-requires-clause-room : goal.make_event-requires-clause-room
make_event-requires-clause-room c = room_after c.args.home.now.history deleted 131 c.requires.at.history deleted_length (omega arith)
