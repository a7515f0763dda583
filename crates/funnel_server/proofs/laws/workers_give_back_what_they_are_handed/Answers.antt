use Rattle.funnel_server.proofs.GateTurns.{all_given_back}
use Rattle.funnel_server.proofs.laws.workers_give_back_what_they_are_handed.Goals as goal

pub returns : goal.returns
returns g c = all_given_back g.G.Gate g.G.Conn.Source g.G.Conn.Sink
