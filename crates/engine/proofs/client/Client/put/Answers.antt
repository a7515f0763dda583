use Rattle.engine.proofs.PutSteps.{answers_put}
use Rattle.engine.proofs.client.Client.put.Goals as goal

pub returns-clause-answers : goal.returns-clause-answers
returns-clause-answers g c =
    let pool = g.N.PoolName.pool in
    let pass = c.self.inside.pass in
    let after = c.put.new.pass.front in
    let text = c.args.text.now in
    let did = c.put.ensures in
    rw (← c.self.view_is)
    (answers_put pool pass.number c.args.id text pass.front after c.put.result c.reply_to_put.result did.call.step did.turns c.reply_to_put.ensures)
