use Rattle.funnel_server.proofs.AskedShares.{asks_share}
use Rattle.funnel_server.proofs.laws.workers_of_a_load_ask_their_share.Goals as goal

pub returns : goal.returns
returns c = asks_share
