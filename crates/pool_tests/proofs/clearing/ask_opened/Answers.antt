use Rattle.std.proofs.Common.{ap}
use Rattle.funnel_model.specs.Legal.{Limits}
use Rattle.pool_tests.proofs.Cleared.{zero_made}
use Rattle.pool_tests.proofs.clearing.ask_opened.Goals as goal

pub ask-requires-clause-ready : goal.ask-requires-clause-ready
ask-requires-clause-ready c =
    zero_made c.args.pool.now.limits.slice_words c.args.seat.now.front c.args.seat.now.own (ap (λ (l : Limits). l.slice_words) c.requires.sizes) c.requires.seat.2 c.requires.zero
