use Rattle.line_proto.specs.Forms.{Ids}
use Rattle.engine.proofs.engine_pool.EnginePool.query.Goals as goal

pub returns-clause-call : goal.returns-clause-call
returns-clause-call g c = c.search.ensures.call Ids
