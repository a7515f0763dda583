use Rattle.std.proofs.Common.{List, sym, subst}
use Rattle.funnel_model.specs.declared.event.Event.{Event}
use Rattle.funnel_model.specs.declared.event.Event.TheVariants as event
use Rattle.funnel_model.specs.Legal.{IsAllowed}
use Rattle.pool_tests.proofs.Histories.{first_take}
use Rattle.pool_tests.proofs.writing.take_first.Goals as goal

pub make_event-requires-clause-allowed : goal.make_event-requires-clause-allowed
make_event-requires-clause-allowed c =
    let limits = c.args.pool.now.limits in
    subst (λ (h : List Event). IsAllowed limits h (event.Take 0 0 0)) (sym c.requires.home.1)
    (first_take limits c.requires.sizes.0 c.requires.sizes.1 c.requires.sizes.2)
