use Rattle.std.proofs.Common.{arith}
use Rattle.http_front.proofs.ResponseLaws.{commits_short}
use Rattle.http_front.proofs.measures.push_commit_metrics.Goals as goal

pub returns-in_err-push_number_between-clause-short : goal.returns-in_err-push_number_between-clause-short
returns-in_err-push_number_between-clause-short c = commits_short c.args.documents c.args.place c.args.base (omega arith) (omega arith) (omega arith)

pub returns-in_err-push_number_between-2-clause-short : goal.returns-in_err-push_number_between-2-clause-short
returns-in_err-push_number_between-2-clause-short c = commits_short c.args.documents c.args.place c.args.base (omega arith) (omega arith) (omega arith)

pub returns-clause-short : goal.returns-clause-short
returns-clause-short c = commits_short c.args.documents c.args.place c.args.base (omega arith) (omega arith) (omega arith)
