use Rattle.http_front.proofs.AnswerLaws.{add_lacks_memory}
use Rattle.http_front.proofs.answering.add.Goals as goal

pub returns-in-Err-clause-answers : goal.returns-in-Err-clause-answers
returns-in-Err-clause-answers g c = add_lacks_memory (g.S.Service.caller c.args.service.now) (g.S.Service.front c.args.service.now) c.args.body.now
