use Rattle.std.proofs.Common.{◌<◌, ◌∙◌, length, ap, arith, refl}
use Rattle.funnel_io.specs.Calls.{GaveBytes}
use Rattle.funnel_io.specs.Counts.{raised}
use Rattle.funnel_io.specs.declared.end.End.TheVariants as end_of
use Rattle.funnel_io.specs.declared.source.Got.TheVariants as got
use Rattle.http_front.specs.TurnSteps.{FindsEndAs}
use Rattle.http_front.proofs.Buffers.{read_once}
use Rattle.http_front.proofs.ReadLaws.{read_more, read_none, read_nothing}
use Rattle.http_front.proofs.TurnLaws.{found_it, found_none, gave_some, reads_next, reads_none}
use Rattle.http_front.proofs.serving.Server.read_until.Goals as goal

pub loop-least-init : goal.loop-least-init
loop-least-init g c = record {
  ready = c.requires.ready;
  stays = record { references = refl; other_half = refl };
  reads = record {
    read = read_none (g.C.Source.incoming c.args.conn.now) c.args.self.now.buffer.bytes c.args.self.now.left;
    calls = reads_none g.C.Source.read_gives (λ bytes. length bytes < c.args.least) c.args.conn.now c.args.self.now.buffer.bytes c.args.self.now.left;
    faults = refl;
  };
}

pub loop-least-preserved : goal.loop-least-preserved
loop-least-preserved g c = record {
  ready = record {
    spans = c.loop-least.invariant.ready.spans;
    query = c.loop-least.invariant.ready.query;
    body = c.loop-least.invariant.ready.body;
    text = c.loop-least.invariant.ready.text;
  };
  stays = record {
    references = c.in-Bytes.ensures.stays.references ∙ c.loop-least.invariant.stays.references;
    other_half = c.in-Bytes.ensures.stays.other_half ∙ c.loop-least.invariant.stays.other_half;
  };
  reads = record {
    read = read_more (g.C.Source.incoming c.args.conn.now) (g.C.Source.incoming c.loop-least.conn) (g.C.Source.incoming c.read.new.conn)
        c.args.self.now.buffer.bytes c.loop-least.self.buffer.bytes c.read.new.self.bytes c.args.self.now.left c.loop-least.self.left c.read.new.left
        c.loop-least.invariant.reads.read (read_once _ _ _ _ _ _ _ _ _ c.in-Bytes.ensures.once);
    calls = reads_next g.C.Source.read_gives g.C.Source.incoming (λ bytes. length bytes < c.args.least) GaveBytes c.args.conn.now c.loop-least.conn c.read.new.conn
        c.args.self.now.buffer.bytes c.loop-least.self.buffer.bytes c.read.new.self.bytes c.args.self.now.left c.loop-least.self.left c.read.new.left
        (got.Bytes c.in-Bytes.field-0) c.loop-least.invariant.reads.calls (omega (arith, c.loop-least-test.true, c.len.ensures)) (omega (arith, c.if-self-eq0.false)) c.in-Bytes.ensures.once (gave_some c.in-Bytes.field-0);
    faults = c.in-Bytes.ensures.told.faults ∙ c.loop-least.invariant.reads.faults;
  };
}

pub returns-in-End-clause-ends : goal.returns-in-End-clause-ends
returns-in-End-clause-ends g c = record {
  stops = record {
    read = read_more (g.C.Source.incoming c.args.conn.now) (g.C.Source.incoming c.loop-least.conn) (g.C.Source.incoming c.read.new.conn)
        c.args.self.now.buffer.bytes c.loop-least.self.buffer.bytes c.read.new.self.bytes c.args.self.now.left c.loop-least.self.left c.read.new.left
        c.loop-least.invariant.reads.read (read_once _ _ _ _ _ _ _ _ _ c.in-End.ensures.once);
    undecided = omega (
      arith,
      read_nothing (g.C.Source.incoming c.loop-least.conn) (g.C.Source.incoming c.read.new.conn) c.loop-least.self.buffer.bytes c.read.new.self.bytes
          c.loop-least.self.left c.read.new.left (read_once _ _ _ _ _ _ _ _ _ c.in-End.ensures.once) c.in-End.ensures.told.left,
      c.loop-least-test.true,
      c.len.ensures,
    );
    stopped = (c.in-End.ensures.told.at_end, omega (arith, c.in-End.ensures.told.left, c.if-self-eq0.false));
    faults = c.in-End.ensures.told.faults ∙ c.loop-least.invariant.reads.faults;
  };
  calls = reads_next g.C.Source.read_gives g.C.Source.incoming (λ bytes. length bytes < c.args.least) (FindsEndAs end_of.Done) c.args.conn.now c.loop-least.conn c.read.new.conn
      c.args.self.now.buffer.bytes c.loop-least.self.buffer.bytes c.read.new.self.bytes c.args.self.now.left c.loop-least.self.left c.read.new.left
      got.End c.loop-least.invariant.reads.calls (omega (arith, c.loop-least-test.true, c.len.ensures)) (omega (arith, c.if-self-eq0.false)) c.in-End.ensures.once found_it;
}

pub returns-in-Failed-clause-ends : goal.returns-in-Failed-clause-ends
returns-in-Failed-clause-ends g c = record {
  stops = record {
    read = read_more (g.C.Source.incoming c.args.conn.now) (g.C.Source.incoming c.loop-least.conn) (g.C.Source.incoming c.read.new.conn)
        c.args.self.now.buffer.bytes c.loop-least.self.buffer.bytes c.read.new.self.bytes c.args.self.now.left c.loop-least.self.left c.read.new.left
        c.loop-least.invariant.reads.read (read_once _ _ _ _ _ _ _ _ _ c.in-Failed.ensures.once);
    undecided = omega (
      arith,
      read_nothing (g.C.Source.incoming c.loop-least.conn) (g.C.Source.incoming c.read.new.conn) c.loop-least.self.buffer.bytes c.read.new.self.bytes
          c.loop-least.self.left c.read.new.left (read_once _ _ _ _ _ _ _ _ _ c.in-Failed.ensures.once) c.in-Failed.ensures.told.left,
      c.loop-least-test.true,
      c.len.ensures,
    );
    stopped = omega (arith, c.in-Failed.ensures.told.left, c.if-self-eq0.false);
    faults = c.in-Failed.ensures.told.faults ∙ ap raised c.loop-least.invariant.reads.faults;
  };
  calls = reads_next g.C.Source.read_gives g.C.Source.incoming (λ bytes. length bytes < c.args.least) (FindsEndAs end_of.ReadFault) c.args.conn.now c.loop-least.conn c.read.new.conn
      c.args.self.now.buffer.bytes c.loop-least.self.buffer.bytes c.read.new.self.bytes c.args.self.now.left c.loop-least.self.left c.read.new.left
      got.Failed c.loop-least.invariant.reads.calls (omega (arith, c.loop-least-test.true, c.len.ensures)) (omega (arith, c.if-self-eq0.false)) c.in-Failed.ensures.once found_none;
}
