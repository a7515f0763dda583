use Rattle.funnel_model.proofs.TreatmentLemmas.{row_count-is_least, row_count-is_small}
use Rattle.funnel_model.proofs.treatment_laws.row_counts_are_least.Goals as goal

pub returns-clause-least : goal.returns-clause-least
returns-clause-least c = row_count-is_least

pub returns-clause-small : goal.returns-clause-small
returns-clause-small c = row_count-is_small
