use Rattle.std.proofs.Common.{arith}
use Rattle.http_front.proofs.ResponseLaws.{columns_short}
use Rattle.http_front.proofs.measures.push_column_metrics.Goals as goal

pub returns-in_err-push_number_between-clause-short : goal.returns-in_err-push_number_between-clause-short
returns-in_err-push_number_between-clause-short c = columns_short c.args.columns c.args.free (omega arith) (omega arith)

pub returns-clause-short : goal.returns-clause-short
returns-clause-short c = columns_short c.args.columns c.args.free (omega arith) (omega arith)
