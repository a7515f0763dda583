use Rattle.std.proofs.Common.{arith}
use Rattle.http_front.proofs.ResponseLaws.{metrics_short}
use Rattle.http_front.proofs.measures.push_metrics.Goals as goal

pub returns-in_err-push_commit_metrics-clause-short : goal.returns-in_err-push_commit_metrics-clause-short
returns-in_err-push_commit_metrics-clause-short c = metrics_short c.args.stats.now (omega arith, omega arith, omega arith, omega arith, omega arith, omega arith, omega arith)

pub returns-in_err-push_column_metrics-clause-short : goal.returns-in_err-push_column_metrics-clause-short
returns-in_err-push_column_metrics-clause-short c = metrics_short c.args.stats.now (omega arith, omega arith, omega arith, omega arith, omega arith, omega arith, omega arith)

pub returns-clause-short : goal.returns-clause-short
returns-clause-short c = metrics_short c.args.stats.now (omega arith, omega arith, omega arith, omega arith, omega arith, omega arith, omega arith)
