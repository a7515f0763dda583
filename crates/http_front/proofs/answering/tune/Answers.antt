use Rattle.http_front.proofs.AnswerLaws.{asks_no_tune, asks_tune}
use Rattle.http_front.proofs.answering.tune.Goals as goal

pub returns-in-Ok-clause-answers : goal.returns-in-Ok-clause-answers
returns-in-Ok-clause-answers g c =
    asks_tune (g.S.Service.caller c.args.service.now) (g.S.Service.front c.args.service.now) (g.S.Service.front c.call.new.self) c.args.body.now c.call.result
    c.in-Ok.ensures.cases.1 (rw c.in-Ok.ensures.cases.0 at c.call.ensures.answers)

pub returns-in-Err-clause-answers : goal.returns-in-Err-clause-answers
returns-in-Err-clause-answers g c =
    asks_no_tune (g.S.Service.caller c.args.service.now) (g.S.Service.front c.args.service.now) c.args.body.now c.in-Err.ensures.cases.0
