use Rattle.funnel_model.proofs.StepCauses.{memory_cause, spent_cause}
use Rattle.funnel_model.proofs.laws.counter_examples.steps_have_their_cause.Goals as goal

pub returns-clause-spent : goal.returns-clause-spent
returns-clause-spent c = spent_cause

pub returns-clause-memory : goal.returns-clause-memory
returns-clause-memory c = memory_cause

pub returns-clause-idle : goal.returns-clause-idle
returns-clause-idle c limits pass before after asked given step = (step.idle_before, step.idle_after)

pub returns-clause-add : goal.returns-clause-add
returns-clause-add c limits pass id text before after step = memory_cause limits pass before after _ step

pub returns-clause-tune : goal.returns-clause-tune
returns-clause-tune c limits pass config before after step = memory_cause limits pass before after _ step

pub returns-clause-delete : goal.returns-clause-delete
returns-clause-delete c limits pass id before after step = memory_cause limits pass before after _ step

pub returns-clause-place : goal.returns-clause-place
returns-clause-place c limits pass before after step = memory_cause limits pass before after _ step

pub returns-clause-recycle : goal.returns-clause-recycle
returns-clause-recycle c limits pass before after step = memory_cause limits pass before after _ step

pub returns-clause-put : goal.returns-clause-put
returns-clause-put c limits pass id text before after step = memory_cause limits pass before after _ step

pub returns-clause-stats : goal.returns-clause-stats
returns-clause-stats c limits pass before after step = memory_cause limits pass before after _ step
