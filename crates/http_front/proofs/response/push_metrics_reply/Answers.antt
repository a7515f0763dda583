use Rattle.std.proofs.Common.{arith}
use Rattle.http_front.proofs.ResponseLaws.{unmeasured}
use Rattle.http_front.proofs.response.push_metrics_reply.Goals as goal

pub returns-in_default : goal.returns-in_default
returns-in_default c =
    rw (unmeasured c.args.reply.now c.in_default.not-Stats) (record {
      short = λ few. omega (arith, c.push_reply.ensures.short few);
      ok = c.push_reply.ensures.ok;
      full = c.push_reply.ensures.full;
      capacity = c.push_reply.ensures.capacity;
    })
