use Rattle.funnel_server.proofs.GateTurns.{asked_again, asked_in_vain}
use Rattle.funnel_server.proofs.laws.workers_ask_until_they_get_none.Goals as goal

pub returns-clause-more : goal.returns-clause-more
returns-clause-more g c before after works = asked_again g.G.Gate g.G.Conn.Source g.G.Conn.Sink before after works

pub returns-clause-failed : goal.returns-clause-failed
returns-clause-failed g c before after works = asked_in_vain g.G.Gate g.G.Conn.Source g.G.Conn.Sink before after works
