use Rattle.funnel_model.proofs.TreatmentLemmas.{rarer-more_rows, unlisted-most_rows}
use Rattle.funnel_model.proofs.treatment_laws.rarer_words_have_more_rows.Goals as goal

pub returns-clause-listed : goal.returns-clause-listed
returns-clause-listed c = rarer-more_rows

pub returns-clause-unlisted : goal.returns-clause-unlisted
returns-clause-unlisted c = unlisted-most_rows
