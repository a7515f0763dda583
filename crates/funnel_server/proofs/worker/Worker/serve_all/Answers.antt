use Rattle.std.proofs.Common.{◌≡◌, arith, subst}
use Rattle.funnel_server.proofs.GateTurns.{no_turn, one_turn, stops_in_time, stops_in_vain}
use Rattle.funnel_server.proofs.worker.Worker.serve_all.Goals as goal

pub loop-self-init : goal.loop-self-init
loop-self-init g c = no_turn g.G.Gate g.G.Conn.Source g.G.Conn.Sink _ c.requires

pub loop-self-preserved : goal.loop-self-preserved
loop-self-preserved g c =
    one_turn g.G.Gate g.G.Conn.Source g.G.Conn.Sink _ _ _ c.loop-self.invariant c.if-not-serve_next.ensures

pub returns-then-not-serve_next : goal.returns-then-not-serve_next
returns-then-not-serve_next g c =
    stops_in_vain g.G.Gate g.G.Conn.Source g.G.Conn.Sink _ _ _ c.loop-self.invariant c.if-not-serve_next.ensures

pub returns : goal.returns
returns g c =
    stops_in_time g.G.Gate g.G.Conn.Source g.G.Conn.Sink _ _
    c.loop-self.invariant (subst (λ w. w.state.left ≡ 0) c.self.view_is (omega (arith, c.loop-self-test.false)))
