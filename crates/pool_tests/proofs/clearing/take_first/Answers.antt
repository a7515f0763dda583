use Rattle.std.proofs.Common.{[]}
use Rattle.funnel_model.specs.declared.event.Event.TheVariants as event
use Rattle.pool_tests.proofs.Cleared.{allowed_at, first_allowed}
use Rattle.pool_tests.proofs.clearing.take_first.Goals as goal

pub make_event-requires-clause-allowed : goal.make_event-requires-clause-allowed
make_event-requires-clause-allowed c =
    allowed_at c.args.pool.now.limits c.args.home.now.history [] (event.Take 1 0 0) c.requires.at.sizes c.requires.at.history first_allowed
