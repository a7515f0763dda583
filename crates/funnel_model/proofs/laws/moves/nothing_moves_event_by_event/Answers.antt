use Rattle.funnel_model.proofs.NothingMoved.{moves_by_kind, moves_nothing-parts, moves_nothing-push}
use Rattle.funnel_model.proofs.laws.moves.nothing_moves_event_by_event.Goals as goal

pub returns-clause-push : goal.returns-clause-push
returns-clause-push c = moves_nothing-push

pub returns-clause-parts : goal.returns-clause-parts
returns-clause-parts c = moves_nothing-parts

pub returns-clause-kinds : goal.returns-clause-kinds
returns-clause-kinds c = moves_by_kind
