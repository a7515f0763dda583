use Rattle.bare_history.proofs.BareLemmas.{live_is_added}
use Rattle.bare_history.proofs.live_documents_are_added_at_their_place.Goals as goal

pub returns : goal.returns
returns c = live_is_added
