use Rattle.std.proofs.Common.{◌∙◌, arith}
use Rattle.funnel_io.proofs.CallLaws.{written_more, writes_all, writes_failed}
use Rattle.funnel_io.proofs.Sending.{writes_more, within_more}
use Rattle.funnel_io.proofs.writing.write_all.Goals as goal

pub loop-sent-preserved : goal.loop-sent-preserved
loop-sent-preserved g c = (
  record {
    within = within_more _ _ _ c.loop-sent.invariant.0.within c.in-Bytes.ensures.count.1;
    writes = writes_more _ _ _ (g.K.Sink.outgoing c.args.sink.now) (g.K.Sink.outgoing c.loop-sent.sink) (g.K.Sink.outgoing c.write.new.self) c.loop-sent.invariant.0.writes c.in-Bytes.ensures.writes;
    faults = c.in-Bytes.ensures.faults ∙ c.loop-sent.invariant.0.faults;
    beside = c.write.ensures.beside ∙ c.loop-sent.invariant.0.beside;
    borrowed = c.write.ensures.borrowed ∙ c.loop-sent.invariant.0.borrowed;
  },
  written_more g.K.Sink.write_gives c.args.bytes.now c.loop-sent.sent c.args.sink.now c.loop-sent.sink c.write.new.self c.loop-sent.invariant.1 c.loop-sent-test.true c.in-Bytes.n c.in-Bytes.ensures.gives,
)

pub returns-in-Failed-clause-writes : goal.returns-in-Failed-clause-writes
returns-in-Failed-clause-writes g c =
    writes_failed g.K.Sink.write_gives c.args.bytes.now c.loop-sent.sent c.args.sink.now c.loop-sent.sink c.write.new.self c.loop-sent.invariant.1 c.loop-sent-test.true c.in-Failed.ensures.gives

pub returns-clause-writes : goal.returns-clause-writes
returns-clause-writes g c =
    writes_all g.K.Sink.write_gives c.args.bytes.now c.loop-sent.sent c.args.sink.now c.loop-sent.sink c.loop-sent.invariant.1
    (omega (arith, c.loop-sent-test.false, c.loop-sent.invariant.0.within))
