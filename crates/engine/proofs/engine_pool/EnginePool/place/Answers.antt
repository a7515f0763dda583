use Rattle.engine.proofs.DeskTurns.{place_step}
use Rattle.engine.proofs.engine_pool.EnginePool.place.Goals as goal

pub returns-clause-call : goal.returns-clause-call
returns-clause-call g c =
    let seat = c.args.pass.now in
    let did = c.read_place.ensures in
    record {
      step = place_step c.args.self.now.limits seat.number seat.front c.read_place.new.pass.front c.requires.rests.idle did.legal c.read_place.result did.turn;
      number = did.number;
    }
