use Rattle.funnel_server.proofs.GateTurns.{sides_stay}
use Rattle.funnel_server.proofs.laws.turns_without_memory_leave_the_connection.Goals as goal

pub returns : goal.returns
returns g c before after visit turn = sides_stay g.G.Gate g.G.Conn.Source g.G.Conn.Sink before after visit turn
