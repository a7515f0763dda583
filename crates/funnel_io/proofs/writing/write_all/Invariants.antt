use Rattle.std.proofs.Common.{◌-◌, length}
use Rattle.funnel_io.proofs.CallLaws.{HasWritten}
use Rattle.funnel_io.proofs.Sending.{HasSent}
use Rattle.funnel_io.proofs.writing.write_all.Given as goal

abbrev pub invariant-loop-sent : goal.invariant-loop-sent
invariant-loop-sent g l =
    HasSent l.bytes l.sent (g.K.Sink.outgoing l.fn.sink) (g.K.Sink.outgoing l.sink)
    (g.K.Sink.beside_write l.fn.sink) (g.K.Sink.beside_write l.sink)
    (g.K.Borrower.borrowed l.fn.sink) (g.K.Borrower.borrowed l.sink)
    × HasWritten g.K.Sink.write_gives l.bytes l.sent l.fn.sink l.sink

abbrev pub decreases-loop-sent : goal.decreases-loop-sent
decreases-loop-sent g l = length l.bytes - l.sent
