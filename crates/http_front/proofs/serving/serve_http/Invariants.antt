use Rattle.std.proofs.Common.{◌≡◌, ◌+◌, length}
use Rattle.http_front.specs.Ready.{IsReady}
use Rattle.http_front.specs.Steps.{HasServed}
use Rattle.http_front.specs.TurnSteps.{HasHadTurns}
use Rattle.http_front.proofs.serving.serve_http.Given as goal

abbrev pub invariant-loop-end : goal.invariant-loop-end
invariant-loop-end g l = record {
  ready : IsReady l.server;
  caller : g.S.Service.caller l.service ≡ g.S.Service.caller l.fn.service;
  borrowed : g.C.Borrower.borrowed l.conn ≡ g.C.Borrower.borrowed l.fn.conn;
  turns : HasHadTurns g.C.Source.read_gives g.C.Sink.write_gives l.fn.limit l.server.left l.server.buffer.bytes l.fn.conn l.conn;
  served : HasServed (g.S.Service.caller l.fn.service) l.fn.limit l.server.left l.server.buffer.bytes
      (record { front = g.S.Service.front l.fn.service; incoming = g.C.Source.incoming l.fn.conn; outgoing = g.C.Sink.outgoing l.fn.conn })
      (record { front = g.S.Service.front l.service; incoming = g.C.Source.incoming l.conn; outgoing = g.C.Sink.outgoing l.conn });
}

abbrev pub decreases-loop-end : goal.decreases-loop-end
decreases-loop-end g l = length l.server.buffer.bytes + l.server.left
