use Rattle.std.proofs.Common.{◌+◌, [], ◌∷◌, ◌++◌}
use Rattle.funnel_model.specs.declared.event.Event.TheVariants as event
use Rattle.pool_tests.specs.Cleared.{drops}
use Rattle.pool_tests.proofs.Cleared.{room_for_drop, allowed_at, drop_next_allowed}
use Rattle.pool_tests.proofs.clearing.drop_next.Goals as goal

pub make_event-requires-clause-allowed : goal.make_event-requires-clause-allowed
make_event-requires-clause-allowed c =
    allowed_at c.args.pool.now.limits c.args.home.now.history (drops c.args.k ++ event.Take 1 0 (c.args.k + 1) ∷ []) (event.Drop 1 4 c.args.text 0 (c.args.k + 1)) c.requires.at.sizes c.requires.at.history (drop_next_allowed c.args.k c.args.text c.requires.few)

pub make_event-requires-clause-room : goal.make_event-requires-clause-room
make_event-requires-clause-room c = room_for_drop c.args.home.now.history c.args.k c.requires.at.history c.requires.few
