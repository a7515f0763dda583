use Rattle.std.proofs.Common.{arith}
use Rattle.std.proofs.lemmas.List.{length-drop}
use Rattle.funnel_model.specs.History.{base, commits}
use Rattle.funnel_model.proofs.laws.replies.journals_keep_the_last_commits.Goals as goal

pub returns-clause-all : goal.returns-clause-all
returns-clause-all c kept history = omega (arith, length-drop (base kept history) (commits history))

pub returns-clause-few : goal.returns-clause-few
returns-clause-few c kept history = omega (arith, length-drop (base kept history) (commits history))

pub returns-clause-many : goal.returns-clause-many
returns-clause-many c kept history many = omega (arith, length-drop (base kept history) (commits history))
