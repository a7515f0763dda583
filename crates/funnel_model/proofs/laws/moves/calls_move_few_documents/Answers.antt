use Rattle.funnel_model.proofs.Moved.{adds_move_few, moved_by-push, others_move_none, puts_move_few}
use Rattle.funnel_model.proofs.laws.moves.calls_move_few_documents.Goals as goal

pub returns-clause-adds : goal.returns-clause-adds
returns-clause-adds c = adds_move_few

pub returns-clause-puts : goal.returns-clause-puts
returns-clause-puts c = puts_move_few

pub returns-clause-others : goal.returns-clause-others
returns-clause-others c = others_move_none

pub returns-clause-counted : goal.returns-clause-counted
returns-clause-counted c = moved_by-push
