use Rattle.std.proofs.Common.{[], ◌∷◌, refl}
use Rattle.funnel_model.specs.declared.event.Event.TheVariants as event
use Rattle.funnel_model.proofs.TuningLemmas.{treat-later, treat_cleared, treat_untuned}
use Rattle.funnel_model.proofs.laws.tunings.slices_are_treated_as_they_were_cleared.Goals as goal

pub returns-clause-opening : goal.returns-clause-opening
returns-clause-opening c opening slice history none = treat-later opening slice [] history none

pub returns-clause-cleared : goal.returns-clause-cleared
returns-clause-cleared c = treat_cleared

pub returns-clause-untuned : goal.returns-clause-untuned
returns-clause-untuned c = treat_untuned

pub returns-clause-tuned : goal.returns-clause-tuned
returns-clause-tuned c opening slice history pass config = treat-later opening slice history (event.Tune pass config ∷ []) refl
