use Rattle.load_laws.proofs.ListLemmas.{found_has, found_only}
use Rattle.load_laws.proofs.lone_pass.queries_find_what_meets_them.Goals as goal

pub returns-clause-complete : goal.returns-clause-complete
returns-clause-complete c = found_has

pub returns-clause-sound : goal.returns-clause-sound
returns-clause-sound c = found_only
