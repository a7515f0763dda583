use Rattle.engine.proofs.GetSteps.{answers_get}
use Rattle.engine.proofs.client.Client.get.Goals as goal

pub returns-clause-answers : goal.returns-clause-answers
returns-clause-answers g c =
    let pool = g.N.PoolName.pool in
    let pass = c.self.inside.pass in
    let did = c.get.ensures in
    rw (← c.self.view_is)
    (answers_get pool.limits pass.number c.args.id pass.front c.get.new.pass.front pool.config c.get.result c.reply_to_get.result did.call.step did.turn c.reply_to_get.ensures)
