use Rattle.load_laws.proofs.ListLemmas.{answers-append, in_turn-append}
use Rattle.load_laws.proofs.lone_pass.loads_go_on.Goals as goal

pub returns-clause-answers : goal.returns-clause-answers
returns-clause-answers c = answers-append

pub returns-clause-in_turn : goal.returns-clause-in_turn
returns-clause-in_turn c = in_turn-append
