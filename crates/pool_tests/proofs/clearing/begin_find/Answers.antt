use Rattle.std.proofs.Common.{◌∙◌, arith}
use Rattle.funnel_model.specs.declared.event.Event.TheVariants as event
use Rattle.pool_tests.specs.Cleared.{clearing}
use Rattle.pool_tests.proofs.Cleared.{allowed_at, clearing_length, find_allowed, room_after}
use Rattle.pool_tests.proofs.clearing.begin_find.Goals as goal

pub make_event-requires-clause-allowed : goal.make_event-requires-clause-allowed
make_event-requires-clause-allowed c =
    allowed_at c.args.pool.now.limits c.catch_up.new.home.history clearing (event.Find 0 c.args.query) c.requires.sizes (c.catch_up.ensures.home.history ∙ c.requires.home.1)
    (find_allowed c.args.query)

pub make_event-requires-clause-room : goal.make_event-requires-clause-room
make_event-requires-clause-room c =
    room_after c.catch_up.new.home.history clearing 132 (c.catch_up.ensures.home.history ∙ c.requires.home.1) clearing_length (omega arith)
