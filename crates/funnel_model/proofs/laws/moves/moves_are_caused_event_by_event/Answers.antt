use Rattle.funnel_model.proofs.CausedMoves.{caused-front, caused-push, caused-start, has_cause-push, uncaused}
use Rattle.funnel_model.proofs.laws.moves.moves_are_caused_event_by_event.Goals as goal

pub returns-clause-none : goal.returns-clause-none
returns-clause-none c = caused-start

pub returns-clause-push : goal.returns-clause-push
returns-clause-push c = caused-push

pub returns-clause-front : goal.returns-clause-front
returns-clause-front c = caused-front

pub returns-clause-uncaused : goal.returns-clause-uncaused
returns-clause-uncaused c = uncaused

pub returns-clause-causes : goal.returns-clause-causes
returns-clause-causes c = has_cause-push
