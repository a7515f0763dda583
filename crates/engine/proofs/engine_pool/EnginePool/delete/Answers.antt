use Rattle.commit_desk.specs.Answers.{AnswersDelete, events_of_delete}
use Rattle.engine.proofs.DeskTurns.{delete_step}
use Rattle.engine.proofs.engine_pool.EnginePool.delete.Goals as goal
use Rattle.slice_recycler.proofs.Steps.{turn_as}
use Rattle.slice_recycler.specs.Turns.{IsTurn}

pub returns-clause-call : goal.returns-clause-call
returns-clause-call g c =
    let limits = c.args.self.now.limits in
    let seat = c.args.pass.now in
    let next = c.delete-did.new.pass in
    let did = c.delete-did.ensures in
    let answer = c.delete-did.result.0 in
    let events = events_of_delete seat.number c.args.id answer in
    let turn : IsTurn seat.number seat.front next.front (λ history. AnswersDelete limits.events history c.args.id answer) events =
    turn_as seat.number seat.front next.front events (λ history told. told.0) did.turn in
    record {
      step = delete_step limits seat.number seat.front next.front c.requires.rests.idle did.legal c.args.id answer turn;
      number = did.number;
    }

pub returns-clause-turn : goal.returns-clause-turn
returns-clause-turn g c =
    let seat = c.args.pass.now in
    turn_as seat.number seat.front c.delete-did.new.pass.front (events_of_delete seat.number c.args.id c.delete-did.result.0) (λ history told. told.0) c.delete-did.ensures.turn
