use Rattle.funnel_model.proofs.Invariants.{passes_in_range}
use Rattle.funnel_model.proofs.laws.invariants.events_are_of_the_engines_passes.Goals as goal

pub returns : goal.returns
returns c = passes_in_range
