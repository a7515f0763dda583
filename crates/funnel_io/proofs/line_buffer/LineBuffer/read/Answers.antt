use Rattle.std.proofs.Common.{ap, arith}
use Rattle.funnel_io.specs.LineBuffers.{HeldBytes}
use Rattle.funnel_io.proofs.Holding.{in_place_read, reads_once}
use Rattle.funnel_io.proofs.line_buffer.LineBuffer.read.Goals as goal

pub invariant_of-self : goal.invariant_of-self
invariant_of-self g c =
    in_place_read g.C.Source.incoming g.C.Source.read_gives c.read_behind.result c.args.conn.now c.read_behind.new.conn
    c.self.inside.buffer.items c.self.inside.line_start c.self.inside.line_end c.self.inside.start c.self.inside.searched c.self.inside.end
    c.read_behind.new.buffer.items c.read_behind.new.end c.args.left.now c.read_behind.new.left c.read_behind.ensures.reads c.self.invariant

pub returns-clause-once : goal.returns-clause-once
returns-clause-once g c =
    rw (← c.self.view_is)
    (reads_once g.C.Source.incoming g.C.Source.read_gives c.read_behind.result c.args.conn.now c.read_behind.new.conn
    c.self.inside.buffer.items c.self.inside.start c.self.inside.end c.read_behind.new.buffer.items c.read_behind.new.end c.args.left.now c.read_behind.new.left
    c.read_behind.ensures.reads (omega (arith, c.self.invariant.in_order, c.self.invariant.not_past_end))
    (omega (arith, ap (λ (h : HeldBytes). h.room) c.self.view_is, c.requires.room)))
