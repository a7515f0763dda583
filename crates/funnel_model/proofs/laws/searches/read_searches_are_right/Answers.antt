use Rattle.funnel_model.proofs.SearchLemmas.{told-right}
use Rattle.funnel_model.proofs.laws.searches.read_searches_are_right.Goals as goal

pub returns : goal.returns
returns c = told-right
