use Rattle.std.proofs.Common.{arith}
use Rattle.http_front.proofs.ResponseLaws.{stats_short}
use Rattle.http_front.proofs.measures.push_stats.Goals as goal

pub returns-in_err-push_kept-clause-short : goal.returns-in_err-push_kept-clause-short
returns-in_err-push_kept-clause-short c = stats_short c.args.stats.now (omega arith, omega arith, omega arith, omega arith, omega arith, omega arith, omega arith)

pub returns-in_err-push_room-clause-short : goal.returns-in_err-push_room-clause-short
returns-in_err-push_room-clause-short c = stats_short c.args.stats.now (omega arith, omega arith, omega arith, omega arith, omega arith, omega arith, omega arith)

pub returns-clause-short : goal.returns-clause-short
returns-clause-short c = stats_short c.args.stats.now (omega arith, omega arith, omega arith, omega arith, omega arith, omega arith, omega arith)
