use Rattle.engine_tests.proofs.Turns.{finds_between}
use Rattle.engine_tests.proofs.events.find.Goals as goal

pub returns : goal.returns
returns g c = record { found = finds_between _ _ _ _ _ c.find.result c.find.ensures.turns }
