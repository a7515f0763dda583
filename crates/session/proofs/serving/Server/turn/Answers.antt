use Rattle.std.proofs.Common.{◌≡◌, sym, ◌∙◌, subst, vec_capacity}
use Rattle.funnel_io.specs.Streams.{Incoming, Outgoing}
use Rattle.session.specs.Ends.{Serves}
use Rattle.session.specs.Steps.{HasServedLines}
use Rattle.funnel_io.specs.declared.end.End.TheVariants as end_of
use Rattle.session.proofs.Progress.{served_more, serves_end, serves_part}
use Rattle.session.proofs.TurnLaws.{gone_on, stops_failed, stops_done}
use Rattle.session.proofs.serving.Server.turn.Goals as goal

pub returns-in-Err-clause-serves : goal.returns-in-Err-clause-serves
returns-in-Err-clause-serves g c old p =
    let P : Outgoing → Type 0 = λ out. Serves (g.S.Service.caller c.args.service.now) c.args.limit old
    (record { front = g.S.Service.front c.next_reply.new.service; incoming = g.C.Source.incoming c.next_reply.new.conn; outgoing = out }) c.in-Err.end in
    subst P (sym c.in-Err.ensures.stays.other_half)
    (serves_end _ _ _ _ _ _ _ _ (g.C.Source.incoming c.next_reply.new.conn) _ p c.in-Err.end c.in-Err.ensures.ends)

pub returns-in-Ok-write_all-clause-serves : goal.returns-in-Ok-write_all-clause-serves
returns-in-Ok-write_all-clause-serves g c old p =
    let law = g.met.C.Connection.writes_leave_reads in
    let stays : g.C.Source.incoming c.write_all.new.sink ≡ g.C.Source.incoming c.next_reply.new.conn =
    sym (law c.write_all.new.sink) ∙ (c.write_all.ensures.beside ∙ law c.next_reply.new.conn) in
    let P : Incoming → Type 0 = λ inc. HasServedLines (g.S.Service.caller c.args.service.now) c.args.limit c.next_reply.new.self.left c.next_reply.new.self.reader old
    (record { front = g.S.Service.front c.next_reply.new.service; incoming = inc; outgoing = g.C.Sink.outgoing c.write_all.new.sink }) in
    subst P (sym stays)
    (served_more _ _ _ _ _ _ _ _ (g.C.Source.incoming c.next_reply.new.conn) _ p c.in-Ok.reply (vec_capacity c.next_reply.new.self.text) c.render.new.text.items
    c.in-Ok.ensures.answers c.render.ensures.text (g.C.Sink.outgoing c.write_all.new.sink)
    (rw (c.as_slice.ensures.value, c.next_reply.ensures.stays.other_half) at c.in-Ok-write_all.ensures.ok)
    (rw c.next_reply.ensures.stays.other_half at c.in-Ok-write_all.ensures.faults))

pub returns-clause-serves : goal.returns-clause-serves
returns-clause-serves g c old p =
    let law = g.met.C.Connection.writes_leave_reads in
    let stays : g.C.Source.incoming c.write_all.new.sink ≡ g.C.Source.incoming c.next_reply.new.conn =
    sym (law c.write_all.new.sink) ∙ (c.write_all.ensures.beside ∙ law c.next_reply.new.conn) in
    let P : Incoming → Type 0 = λ inc. Serves (g.S.Service.caller c.args.service.now) c.args.limit old
    (record { front = g.S.Service.front c.next_reply.new.service; incoming = inc; outgoing = g.C.Sink.outgoing c.write_all.new.sink }) end_of.WriteFault in
    subst P (sym stays)
    (serves_part _ _ _ _ _ _ _ _ (g.C.Source.incoming c.next_reply.new.conn) _ p c.in-Ok.reply (vec_capacity c.next_reply.new.self.text) c.render.new.text.items
    c.in-Ok.ensures.answers c.render.ensures.text (g.C.Sink.outgoing c.write_all.new.sink)
    (rw (c.as_slice.ensures.value, c.next_reply.ensures.stays.other_half) at c.in-Err-write_all.ensures.part)
    (rw c.next_reply.ensures.stays.other_half at c.in-Err-write_all.ensures.faults))

pub returns-in-Err-clause-in_turns : goal.returns-in-Err-clause-in_turns
returns-in-Err-clause-in_turns g c first p =
    stops_done g.C.Source.read_gives g.C.Sink.write_gives c.args.limit c.args.self.now.left c.next_reply.new.self.left first c.args.conn.now
    c.args.self.now.reader c.next_reply.new.self.reader p c.next_reply.new.conn c.in-Err.ensures.reads
    (g.C.Source.incoming c.args.conn.now) (g.C.Source.incoming c.next_reply.new.conn) _ _ c.in-Err.end c.in-Err.ensures.ends

pub returns-in-Ok-write_all-clause-in_turns : goal.returns-in-Ok-write_all-clause-in_turns
returns-in-Ok-write_all-clause-in_turns g c first p =
    gone_on g.C.Source.read_gives g.C.Sink.write_gives c.args.limit c.args.self.now.left c.next_reply.new.self.left first c.args.conn.now
    c.args.self.now.reader c.next_reply.new.self.reader p c.next_reply.new.conn c.in-Ok.ensures.reads
    c.in-Ok.reply (vec_capacity c.next_reply.new.self.text) c.render.new.text.items c.render.ensures.text c.write_all.new.sink
    (rw c.as_slice.ensures.value at c.in-Ok-write_all.ensures.writes)

pub returns-clause-in_turns : goal.returns-clause-in_turns
returns-clause-in_turns g c first p =
    stops_failed g.C.Source.read_gives g.C.Sink.write_gives c.args.limit c.args.self.now.left c.next_reply.new.self.left first c.args.conn.now
    c.args.self.now.reader c.next_reply.new.self.reader p c.next_reply.new.conn c.in-Ok.ensures.reads
    c.in-Ok.reply (vec_capacity c.next_reply.new.self.text) c.render.new.text.items c.render.ensures.text c.write_all.new.sink
    (rw c.as_slice.ensures.value at c.in-Err-write_all.ensures.writes)
