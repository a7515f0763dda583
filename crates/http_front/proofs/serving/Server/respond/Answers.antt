use Rattle.std.proofs.Common.{subst}
use Rattle.http_front.specs.Steps.{IsFrame}
use Rattle.http_front.proofs.AnswerLaws.{refused}
use Rattle.http_front.proofs.serving.Server.respond.Goals as goal

pub returns-in-Refused-clause-answers : goal.returns-in-Refused-clause-answers
returns-in-Refused-clause-answers g c =
    refused (g.S.Service.caller c.args.service.now) (g.S.Service.front c.args.service.now) c.args.self.now.buffer.bytes c.in-Refused.cause
    (subst (IsFrame c.args.self.now.buffer.bytes) c.in-Refused.is c.requires.frame)
