use Rattle.slice_rule.proofs.Told.{has_joined}
use Rattle.slice_rule.proofs.pool.Pool.join.Goals as goal

pub returns-clause-none_since : goal.returns-clause-none_since
returns-clause-none_since c = λ none_outstanding.
    (has_joined c.args.seat.now c.take_in.new.seat c.take_in.ensures.seat none_outstanding c.take_in.ensures.own c.take_in.ensures.asked).front
