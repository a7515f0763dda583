use Rattle.engine.proofs.GetSteps.{get_step}
use Rattle.engine.proofs.engine_pool.EnginePool.get.Goals as goal

pub returns-clause-call : goal.returns-clause-call
returns-clause-call g c =
    let did = c.read_text.ensures in
    record {
      step = get_step c.args.self.now.limits c.args.pass.now.number c.args.id c.args.pass.now.front c.read_text.new.pass.front c.read_text.result did.turn c.requires.rests.idle did.legal;
      number = did.number;
    }

pub returns-clause-turn : goal.returns-clause-turn
returns-clause-turn g c = c.read_text.ensures.turn
