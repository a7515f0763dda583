use Rattle.std.proofs.Common.{arith}
use Rattle.funnel_model.specs.declared.event.Event.TheVariants as event
use Rattle.pool_tests.specs.Cleared.{taken}
use Rattle.pool_tests.proofs.Cleared.{taken_length, room_after, add_second_allowed, allowed_at}
use Rattle.pool_tests.proofs.clearing.add_second.Goals as goal

pub make_event-requires-clause-allowed : goal.make_event-requires-clause-allowed
make_event-requires-clause-allowed c =
    allowed_at c.args.pool.now.limits c.args.home.now.history taken (event.Add 1 5 c.args.text 1 0 c.args.bits) c.requires.at.sizes c.requires.at.history (add_second_allowed c.args.text c.args.bits c.requires.bits)

pub make_event-requires-clause-room : goal.make_event-requires-clause-room
make_event-requires-clause-room c = room_after c.args.home.now.history taken 129 c.requires.at.history taken_length (omega arith)
