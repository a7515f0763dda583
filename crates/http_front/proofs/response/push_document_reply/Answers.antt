use Rattle.std.proofs.Common.{arith}
use Rattle.http_front.proofs.ResponseLaws.{as_object}
use Rattle.http_front.proofs.response.push_document_reply.Goals as goal

pub returns-in_default : goal.returns-in_default
returns-in_default c =
    rw (as_object c.args.id c.args.reply.now c.in_default.not-Text) (record {
      short = λ few. omega (arith, c.push_reply.ensures.short few);
      ok = c.push_reply.ensures.ok;
      full = c.push_reply.ensures.full;
      capacity = c.push_reply.ensures.capacity;
    })
