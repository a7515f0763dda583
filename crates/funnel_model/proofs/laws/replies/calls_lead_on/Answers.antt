use Rattle.funnel_model.proofs.StepLemmas.{linear-answered, linear-grows, linear-legal}
use Rattle.funnel_model.proofs.laws.replies.calls_lead_on.Goals as goal

pub returns-clause-grows : goal.returns-clause-grows
returns-clause-grows c = linear-grows

pub returns-clause-legal : goal.returns-clause-legal
returns-clause-legal c = linear-legal

pub returns-clause-answered : goal.returns-clause-answered
returns-clause-answered c = linear-answered

pub returns-clause-none : goal.returns-clause-none
returns-clause-none c limits pass before after is = is
