use Rattle.std.proofs.Common.{arith}
use Rattle.http_front.proofs.ResponseLaws.{running_short}
use Rattle.http_front.proofs.measures.push_running_metrics.Goals as goal

pub returns-in_err-push_number_between-clause-short : goal.returns-in_err-push_number_between-clause-short
returns-in_err-push_number_between-clause-short c = running_short c.args.retired c.args.finds (omega arith) (omega arith)

pub returns-clause-short : goal.returns-clause-short
returns-clause-short c = running_short c.args.retired c.args.finds (omega arith) (omega arith)
