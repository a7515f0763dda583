use Rattle.std.proofs.Common.{◌≡◌, ◌≤◌, ◌+◌, vec_capacity}
use Rattle.funnel_io.specs.LineReading.{most_lines}
use Rattle.session.specs.Steps.{HasGone, HasServedLines}
use Rattle.session.proofs.serving.serve_session.Given as goal

abbrev pub invariant-loop-end : goal.invariant-loop-end
invariant-loop-end g l = record {
  caller : g.S.Service.caller l.service ≡ g.S.Service.caller l.fn.service;
  borrowed : g.C.Borrower.borrowed l.conn ≡ g.C.Borrower.borrowed l.fn.conn;
  room : 256 ≤ vec_capacity l.server.text;
  gone : HasGone g.C.Source.read_gives g.C.Sink.write_gives l.fn.limit l.server.left l.fn.conn l.conn l.server.reader;
  served : HasServedLines (g.S.Service.caller l.fn.service) l.fn.limit l.server.left l.server.reader
      (record { front = g.S.Service.front l.fn.service; incoming = g.C.Source.incoming l.fn.conn; outgoing = g.C.Sink.outgoing l.fn.conn })
      (record { front = g.S.Service.front l.service; incoming = g.C.Source.incoming l.conn; outgoing = g.C.Sink.outgoing l.conn });
}

abbrev pub decreases-loop-end : goal.decreases-loop-end
decreases-loop-end g l = most_lines l.server.reader.held l.server.reader.long + l.server.left
