use Rattle.engine.proofs.DeskTurns.{journal_step}
use Rattle.engine.proofs.engine_pool.EnginePool.journal.Goals as goal

pub returns-clause-call : goal.returns-clause-call
returns-clause-call g c =
    let seat = c.args.pass.now in
    let did = c.read_journal.ensures in
    record {
      step = journal_step c.args.self.now.limits seat.number seat.front c.read_journal.new.pass.front c.requires.rests.idle did.legal c.args.from c.read_journal.result did.turn;
      number = did.number;
    }
