use Rattle.std.proofs.Common.{[], refl, arith}
use Rattle.funnel_model.specs.declared.call.Call.TheVariants as call
use Rattle.funnel_model.specs.Example.{small}
use Rattle.funnel_model.proofs.StepLemmas.{step_spent, step_without_memory}
use Rattle.funnel_model.proofs.laws.examples.steps_without_events.Goals as goal

pub returns-clause-memory : goal.returns-clause-memory
returns-clause-memory c = step_without_memory small 0 [] (call.Add 9 []) tt tt refl

pub returns-clause-spent : goal.returns-clause-spent
returns-clause-spent c = step_spent (record small { events = 0 }) 0 [] call.Place (omega arith) tt tt
