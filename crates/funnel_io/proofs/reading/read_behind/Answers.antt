use Rattle.std.proofs.Common.{refl, arith, drop, length-take, length-drop}
use Rattle.funnel_io.specs.declared.source.Got.TheVariants as got
use Rattle.funnel_io.proofs.BufferReads.{IsLent, reads_behind}
use Rattle.funnel_io.proofs.reading.read_behind.Goals as goal

pub returns-in-Bytes-clause-reads : goal.returns-in-Bytes-clause-reads
returns-in-Bytes-clause-reads g c =
    let loan : IsLent c.args.buffer.now.len c.args.buffer.now.items c.deref_mut.result.now c.read_from.new.buffer c.args.end.now = record {
      whole = c.deref_mut.ensures.value;
      size = c.deref_mut.ensures.len;
      same_size = c.read_from.auto.buffer;
      kept = c.read_from.ensures.fills.kept;
    } in
    reads_behind g.C.Source.incoming g.C.Source.read_gives (got.Bytes c.in-Bytes.n) c.args.conn.now c.read_from.new.conn
    c.args.buffer.now.len c.args.buffer.now.items c.deref_mut.result.now c.read_from.new.buffer c.args.end.now c.in-Bytes.n _ c.args.left.now _
    loan refl
    (omega (arith, length-take c.in-Bytes.n (drop c.args.end.now c.read_from.new.buffer), length-drop c.args.end.now c.read_from.new.buffer, c.in-Bytes.ensures.fills.count.2))
    c.in-Bytes.ensures.fills.count.2 (omega (arith, c.in-Bytes.ensures.fills.count.1))
    (omega (arith, length-take c.in-Bytes.n (drop c.args.end.now c.read_from.new.buffer), length-drop c.args.end.now c.read_from.new.buffer, c.in-Bytes.ensures.fills.count.2))
    c.in-Bytes.ensures.gives c.in-Bytes.ensures.takes
