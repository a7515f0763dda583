use Rattle.std.proofs.Common.{arith}
use Rattle.funnel_model.specs.declared.event.Event.TheVariants as event
use Rattle.pool_tests.specs.Cleared.{added}
use Rattle.pool_tests.proofs.Cleared.{added_length, room_after, allowed_at, delete_allowed}
use Rattle.pool_tests.proofs.clearing.delete_first.Goals as goal

pub make_event-requires-clause-allowed : goal.make_event-requires-clause-allowed
make_event-requires-clause-allowed c =
    allowed_at c.args.pool.now.limits c.args.home.now.history added (event.Del 1 4) c.requires.at.sizes c.requires.at.history delete_allowed

pub make_event-requires-clause-room : goal.make_event-requires-clause-room
make_event-requires-clause-room c = room_after c.args.home.now.history added 130 c.requires.at.history added_length (omega arith)
