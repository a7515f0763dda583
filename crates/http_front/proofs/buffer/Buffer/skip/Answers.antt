use Rattle.std.proofs.Common.{◌∙◌, ap, arith, length, drop}
use Rattle.funnel_io.proofs.Ranges.{length-range}
use Rattle.http_front.specs.Steps.{Held}
use Rattle.http_front.proofs.Buffers.{range_after}
use Rattle.http_front.proofs.buffer.Buffer.skip.Goals as goal

pub returns-else-self : goal.returns-else-self
returns-else-self c =
    let bytes = ap (λ (h : Held). h.bytes) c.self.view_is in
    range_after c.self.inside.room.items c.self.inside.start c.self.inside.end c.args.count
    (omega (arith, c.requires, ap length bytes, length-range c.self.inside.room.items c.self.inside.start c.self.inside.end c.self.invariant.within, c.self.invariant.in_order))
    ∙ ap (drop c.args.count) bytes
