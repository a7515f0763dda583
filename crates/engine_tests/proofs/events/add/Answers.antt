use Rattle.std.proofs.Common.{subst}
use Rattle.engine.specs.Adds.{AddTurns}
use Rattle.engine_tests.proofs.Turns.{ends_with_add, ends_with_refusal, makes_none, refuses_at_once}
use Rattle.engine_tests.proofs.events.add.Goals as goal

pub returns-clause-full : goal.returns-clause-full
returns-clause-full g c blocks is = ends_with_refusal _ _ _ _ _ _ _ blocks (subst (AddTurns _ _ _ _ _ _ _) is c.add.ensures.turns)

pub returns-clause-full_at_once : goal.returns-clause-full_at_once
returns-clause-full_at_once g c blocks none is = refuses_at_once _ _ _ _ _ _ _ blocks (subst (AddTurns _ _ _ _ _ _ _) is c.add.ensures.turns) none

pub returns-clause-memory : goal.returns-clause-memory
returns-clause-memory g c none is = makes_none _ _ _ _ _ _ _ none (subst (AddTurns _ _ _ _ _ _ _) is c.add.ensures.turns)

pub returns-clause-added : goal.returns-clause-added
returns-clause-added g c = ends_with_add _ _ _ _ _ _ _ c.add.result c.add.ensures.turns
