use Rattle.std.proofs.Common.{ap, arith}
use Rattle.http_front.specs.Steps.{Held}
use Rattle.funnel_io.proofs.Holding.{reads_once}
use Rattle.http_front.proofs.Buffers.{in_place_read}
use Rattle.http_front.proofs.buffer.Buffer.read_on.Goals as goal

pub invariant_of-self : goal.invariant_of-self
invariant_of-self g c =
    in_place_read g.C.Source.incoming g.C.Source.read_gives c.read_behind.result c.args.conn.now c.read_behind.new.conn
    c.self.inside.room.items c.self.inside.start c.self.inside.end c.read_behind.new.buffer.items c.read_behind.new.end c.args.left.now c.read_behind.new.left
    c.read_behind.ensures.reads c.self.invariant

pub returns-clause-once : goal.returns-clause-once
returns-clause-once g c =
    rw (← c.self.view_is)
    (reads_once g.C.Source.incoming g.C.Source.read_gives c.read_behind.result c.args.conn.now c.read_behind.new.conn
    c.self.inside.room.items c.self.inside.start c.self.inside.end c.read_behind.new.buffer.items c.read_behind.new.end c.args.left.now c.read_behind.new.left
    c.read_behind.ensures.reads c.self.invariant.in_order (omega (arith, c.requires.room, ap (λ (h : Held). h.room) c.self.view_is)))
