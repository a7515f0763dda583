use Rattle.std.proofs.Common.{ap, ◌∙◌, refl}
use Rattle.slice_rule.specs.Numbers.{last_number}
use Rattle.pool_tests.proofs.Histories.{just_set}
use Rattle.pool_tests.proofs.writing.add_second.Goals as goal

pub make_event-requires-clause-ready : goal.make_event-requires-clause-ready
make_event-requires-clause-ready c =
    let seat = c.catch_up.new.seat in
    let front = c.catch_up.ensures.front ∙ c.catch_up.ensures.home.history ∙ c.requires.first.2 in
    just_set 2 (last_number 1 seat.front) c.args.bits.now.bits c.args.bits.now.bits c.args.seat.now.own seat.own (ap (last_number 1) front) refl c.catch_up.ensures.seat.own c.requires.own
