use Rattle.funnel_model.proofs.StepCauses.{one_answer, one_last_call}
use Rattle.funnel_model.proofs.laws.counter_examples.steps_answer_their_call.Goals as goal

pub returns-clause-call : goal.returns-clause-call
returns-clause-call c = one_last_call

pub returns-clause-reply : goal.returns-clause-reply
returns-clause-reply c = one_answer
