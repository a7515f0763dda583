use Rattle.std.proofs.Common.{ap}
use Rattle.slice_rule.specs.Seats.{PassState}
use Rattle.pool_tests.proofs.Cleared.{zero_known}
use Rattle.pool_tests.proofs.clearing.clear_one.Goals as goal

pub returns-clause-zero : goal.returns-clause-zero
returns-clause-zero c =
    zero_known c.clear_word.new.seat.own c.args.seat.own c.args.seat.number c.args.seat.front c.requires.seat.1 c.requires.seat.2 (ap (λ (s : PassState). s.own) c.clear_word.ensures)
