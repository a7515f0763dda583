use Rattle.funnel.proofs.GatesBack.{all_come_back, none_was_called}
use Rattle.funnel.proofs.laws.gates_come_back.Goals as goal

pub returns-clause-count : goal.returns-clause-count
returns-clause-count g c = all_come_back g.G.Gate g.G.Conn.Source g.G.Conn.Sink

pub returns-clause-unused : goal.returns-clause-unused
returns-clause-unused g c = none_was_called g.G.Gate g.G.Conn.Source g.G.Conn.Sink
