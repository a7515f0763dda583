use Rattle.funnel_model.proofs.WordClasses.{listed-class, unlisted-class}
use Rattle.funnel_model.proofs.treatment_laws.words_have_their_class.Goals as goal

pub returns-clause-listed : goal.returns-clause-listed
returns-clause-listed c = listed-class

pub returns-clause-unlisted : goal.returns-clause-unlisted
returns-clause-unlisted c = unlisted-class
