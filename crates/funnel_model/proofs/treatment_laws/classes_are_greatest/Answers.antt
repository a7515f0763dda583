use Rattle.funnel_model.proofs.TreatmentLemmas.{class-is_greatest}
use Rattle.funnel_model.proofs.treatment_laws.classes_are_greatest.Goals as goal

pub returns : goal.returns
returns c = class-is_greatest
