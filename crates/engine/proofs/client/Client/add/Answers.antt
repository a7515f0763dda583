use Rattle.engine.proofs.NotTaken.{answers_add}
use Rattle.engine.proofs.client.Client.add.Goals as goal

pub returns-clause-answers : goal.returns-clause-answers
returns-clause-answers g c =
    let pool = g.N.PoolName.pool in
    let pass = c.self.inside.pass in
    let after = c.add.new.pass.front in
    let text = c.args.text.now in
    let added = c.add.ensures in
    rw (← c.self.view_is)
    (answers_add pool pass.number c.args.id text pass.front after c.add.result c.reply_to_add.result added.call.step added.turns c.reply_to_add.ensures)
