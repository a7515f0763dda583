use Rattle.engine.proofs.Finds.{just_begun, refused_find}
use Rattle.engine.proofs.engine_pool.EnginePool.begin.Goals as goal

pub returns-in-Ok-clause-begun : goal.returns-in-Ok-clause-begun
returns-in-Ok-clause-begun g c =
    let pass = c.args.pass.now in
    let opened = c.in-Ok.ensures in
    just_begun c.args.self.now.limits pass.number c.args.query.now pass.front c.args.self.now c.open_find.new.pass c.in-Ok.token c.open_find.new.layouts.entries.items opened.number
    (record { earlier = opened.turn.earlier; seen = opened.turn.seen; answer = opened.turn.answer.0; made = opened.turn.made }) opened.next opened.layouts opened.sound

pub returns-in-Err-clause-turns : goal.returns-in-Err-clause-turns
returns-in-Err-clause-turns g c =
    let pass = c.args.pass.now in
    refused_find c.args.self.now.limits pass.number c.args.query.now pass.front c.open_find.new.pass.front c.in-Err.fault c.in-Err.ensures.turn
