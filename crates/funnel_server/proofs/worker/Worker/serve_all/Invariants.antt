use Rattle.funnel_server.proofs.GateTurns.{WorksOnInTurns}
use Rattle.funnel_server.proofs.worker.Worker.serve_all.Given as goal

abbrev pub invariant-loop-self : goal.invariant-loop-self
invariant-loop-self g l = WorksOnInTurns g.G.Gate g.G.Conn.Source g.G.Conn.Sink l.fn.self l.self

abbrev pub decreases-loop-self : goal.decreases-loop-self
decreases-loop-self g l = l.self.state.left
