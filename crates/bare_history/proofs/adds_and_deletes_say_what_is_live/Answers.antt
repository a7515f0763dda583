use Rattle.bare_history.proofs.BareLemmas.{bare_answer, bare_commits, bare_live, bare_place}
use Rattle.bare_history.proofs.adds_and_deletes_say_what_is_live.Goals as goal

pub returns-clause-live : goal.returns-clause-live
returns-clause-live c = bare_live

pub returns-clause-place : goal.returns-clause-place
returns-clause-place c = bare_place

pub returns-clause-commits : goal.returns-clause-commits
returns-clause-commits c = bare_commits

pub returns-clause-answer : goal.returns-clause-answer
returns-clause-answer c = bare_answer
