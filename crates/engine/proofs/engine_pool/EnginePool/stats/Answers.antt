use Rattle.engine.proofs.DeskTurns.{stats_step}
use Rattle.engine.proofs.engine_pool.EnginePool.stats.Goals as goal

pub returns-clause-call : goal.returns-clause-call
returns-clause-call g c =
    let seat = c.args.pass.now in
    let did = c.read_stats.ensures in
    record {
      step = stats_step c.args.self.now.limits seat.number seat.front c.read_stats.new.pass.front c.requires.rests.idle did.legal c.read_stats.result did.turn;
      number = did.number;
    }
