use Rattle.load_laws.proofs.LoadLemmas.{load_is_answered, load_is_held}
use Rattle.load_laws.proofs.lone_pass.loads_are_answered_as_by_a_list.Goals as goal

pub returns-clause-replies : goal.returns-clause-replies
returns-clause-replies c = load_is_answered

pub returns-clause-loaded : goal.returns-clause-loaded
returns-clause-loaded c = load_is_held
