use Rattle.http_front.proofs.AnswerLaws.{asks_no_put, asks_put, put_lacks_memory}
use Rattle.http_front.proofs.answering.put.Goals as goal

pub returns-in-Ok-Some-clause-answers : goal.returns-in-Ok-Some-clause-answers
returns-in-Ok-Some-clause-answers g c =
    asks_put (g.S.Service.caller c.args.service.now) (g.S.Service.front c.args.service.now) (g.S.Service.front c.call.new.self) c.args.id c.args.body.now c.in-Ok-Some.text.now
    c.call.result (rw c.in-Ok-Some.field-0-is at c.in-Ok-Some.ensures) c.call.ensures.answers

pub returns-in-Ok-None-clause-answers : goal.returns-in-Ok-None-clause-answers
returns-in-Ok-None-clause-answers g c =
    asks_no_put (g.S.Service.caller c.args.service.now) (g.S.Service.front c.args.service.now) c.args.id c.args.body.now (rw c.in-Ok-None.field-0-is at c.in-Ok-None.ensures)

pub returns-in-Err-clause-answers : goal.returns-in-Err-clause-answers
returns-in-Err-clause-answers g c =
    put_lacks_memory (g.S.Service.caller c.args.service.now) (g.S.Service.front c.args.service.now) c.args.id c.args.body.now
