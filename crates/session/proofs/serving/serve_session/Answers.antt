use Rattle.std.proofs.Common.{◌≡◌, refl, arith}
use Rattle.funnel_io.specs.declared.end.End.TheVariants as end_of
use Rattle.session.proofs.Progress.{served_none}
use Rattle.session.proofs.TurnLaws.{gone_none}
use Rattle.session.proofs.Turns.{stops_at_once}
use Rattle.session.specs.Turns.{line_by_line}
use Rattle.session.proofs.serving.serve_session.Goals as goal

pub returns-in_default-clause-in_turns : goal.returns-in_default-clause-in_turns
returns-in_default-clause-in_turns g c = stops_at_once line_by_line g.C.Source.read_gives g.C.Sink.write_gives c.args.limit (end_of.Memory ≡ end_of.Done) c.args.conn.now (λ is. cc)

pub returns-in_default-with_capacity-clause-in_turns : goal.returns-in_default-with_capacity-clause-in_turns
returns-in_default-with_capacity-clause-in_turns g c = stops_at_once line_by_line g.C.Source.read_gives g.C.Sink.write_gives c.args.limit (end_of.Memory ≡ end_of.Done) c.args.conn.now (λ is. cc)

pub loop-end-init : goal.loop-end-init
loop-end-init g c = record {
  caller = refl;
  borrowed = refl;
  room = omega (arith, c.in-Ok-with_capacity.ensures.capacity);
  gone = rw c.in-Ok.ensures.unused (gone_none g.C.Source.read_gives g.C.Sink.write_gives c.args.limit c.args.conn.now (rw c.in-Ok.ensures.unused at c.in-Ok.ensures.nothing_given));
  served = rw c.in-Ok.ensures.unused (served_none _ _ _ (rw c.in-Ok.ensures.unused at c.in-Ok.ensures.nothing_given));
}
