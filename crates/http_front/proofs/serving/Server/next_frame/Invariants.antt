use Rattle.funnel_io.specs.Beside.{StaysBeside}
use Rattle.http_front.specs.Entries.{HasNoEntry}
use Rattle.http_front.specs.Ready.{IsReady}
use Rattle.http_front.specs.TurnSteps.{ReadsOn}
use Rattle.http_front.proofs.serving.Server.next_frame.Given as goal

abbrev pub invariant-loop-frame : goal.invariant-loop-frame
invariant-loop-frame g l = record {
  ready : IsReady l.self;
  stays : StaysBeside g.C.Borrower.borrowed g.C.Source.beside_read l.fn.conn l.conn;
  reads : ReadsOn HasNoEntry g.C.Source.incoming g.C.Source.read_gives l.fn.conn l.conn l.fn.self.buffer.bytes l.self.buffer.bytes l.fn.self.left l.self.left;
}

abbrev pub decreases-loop-frame : goal.decreases-loop-frame
decreases-loop-frame g l = l.self.left
