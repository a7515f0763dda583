use Rattle.std.proofs.Common.{sym}
use Rattle.http_front.proofs.ResponseLaws.{unmeasured_kind}
use Rattle.http_front.proofs.response.kind_of_metrics.Goals as goal

pub returns-in_default-clause-value : goal.returns-in_default-clause-value
returns-in_default-clause-value c = sym (unmeasured_kind c.args.reply.now c.in_default.not-Stats)
