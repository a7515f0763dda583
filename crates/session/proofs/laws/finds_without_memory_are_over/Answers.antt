use Rattle.session.proofs.SessionLaws.{find_is_over, search_is_over}
use Rattle.session.proofs.laws.finds_without_memory_are_over.Goals as goal

pub returns-clause-find : goal.returns-clause-find
returns-clause-find c = find_is_over

pub returns-clause-search : goal.returns-clause-search
returns-clause-search c = search_is_over
