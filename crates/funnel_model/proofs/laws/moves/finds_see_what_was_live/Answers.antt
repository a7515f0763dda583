use Rattle.funnel_model.proofs.LiveColumns.{live_column_is_live}
use Rattle.funnel_model.proofs.SeenColumns.{sees_all_that_was_live, sees_each_once, sees_what_was_live}
use Rattle.funnel_model.proofs.laws.moves.finds_see_what_was_live.Goals as goal

pub returns-clause-all : goal.returns-clause-all
returns-clause-all c = sees_all_that_was_live

pub returns-clause-no_other : goal.returns-clause-no_other
returns-clause-no_other c limits history pass number slice column state d legal token in_use is sees =
    let there = sees_what_was_live limits history pass number slice column state d legal token in_use is sees in
    live_column_is_live token.earlier slice column d there.0 there.1

pub returns-clause-there : goal.returns-clause-there
returns-clause-there c = sees_what_was_live

pub returns-clause-once : goal.returns-clause-once
returns-clause-once c = sees_each_once
