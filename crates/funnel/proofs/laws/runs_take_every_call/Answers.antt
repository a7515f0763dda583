use Rattle.funnel.proofs.DueReplies.{input_is_due, replies_are_due}
use Rattle.funnel.proofs.laws.runs_take_every_call.Goals as goal

pub returns-clause-any : goal.returns-clause-any
returns-clause-any c = replies_are_due

pub returns-clause-whole : goal.returns-clause-whole
returns-clause-whole c = input_is_due
