use Rattle.funnel_model.proofs.RequiredLemmas.{required-keep}
use Rattle.funnel_model.proofs.laws.searches.required_words_and_residue_keep.Goals as goal

pub returns : goal.returns
returns c = required-keep
