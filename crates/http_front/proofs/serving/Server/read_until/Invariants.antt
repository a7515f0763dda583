use Rattle.std.proofs.Common.{◌<◌, length}
use Rattle.funnel_io.specs.Beside.{StaysBeside}
use Rattle.http_front.specs.Ready.{IsReady}
use Rattle.http_front.specs.TurnSteps.{ReadsOn}
use Rattle.http_front.proofs.serving.Server.read_until.Given as goal

abbrev pub invariant-loop-least : goal.invariant-loop-least
invariant-loop-least g l = record {
  ready : IsReady l.self;
  stays : StaysBeside g.C.Borrower.borrowed g.C.Source.beside_read l.fn.conn l.conn;
  reads : ReadsOn (λ bytes. length bytes < l.fn.least) g.C.Source.incoming g.C.Source.read_gives l.fn.conn l.conn l.fn.self.buffer.bytes l.self.buffer.bytes l.fn.self.left l.self.left;
}

abbrev pub decreases-loop-least : goal.decreases-loop-least
decreases-loop-least g l = l.self.left
