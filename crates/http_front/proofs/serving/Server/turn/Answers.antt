use Rattle.std.proofs.Common.{◌≡◌, ◌∙◌, sym, ap, subst, drop}
use Rattle.funnel_io.specs.Streams.{Incoming, Outgoing}
use Rattle.funnel_io.specs.declared.end.End.TheVariants as end_of
use Rattle.line_proto.specs.Services.{Caller}
use Rattle.http_front.specs.Ends.{ServesRequests}
use Rattle.http_front.specs.declared.serving.Server.{Server}
use Rattle.http_front.proofs.Progress.{served_as, served_more, served_read, serves_last, serves_part, serves_stopped}
use Rattle.http_front.proofs.TurnLaws.{had_as, had_more, stops_closing, stops_failed, stops_reading}
use Rattle.http_front.proofs.serving.Server.turn.Goals as goal

pub returns-in-Err-clause-serves : goal.returns-in-Err-clause-serves
returns-in-Err-clause-serves g c old p =
    let law = g.met.C.Connection.reads_leave_writes in
    let stays : g.C.Sink.outgoing c.next_frame.new.conn ≡ g.C.Sink.outgoing c.args.conn.now =
    sym (law c.next_frame.new.conn) ∙ (c.next_frame.ensures.stays.other_half ∙ law c.args.conn.now) in
    let P : Outgoing → Type 0 = λ out. ServesRequests (g.S.Service.caller c.args.service.now) c.args.limit old
    (record { front = g.S.Service.front c.args.service.now; incoming = g.C.Source.incoming c.next_frame.new.conn; outgoing = out }) c.in-Err.end in
    subst P (sym stays)
    (serves_stopped (g.S.Service.caller c.args.service.now) c.args.limit c.args.self.now.left c.args.self.now.buffer.bytes old
    (record { front = g.S.Service.front c.args.service.now; incoming = g.C.Source.incoming c.args.conn.now; outgoing = g.C.Sink.outgoing c.args.conn.now }) p
    c.next_frame.new.self.left c.next_frame.new.self.buffer.bytes (g.C.Source.incoming c.next_frame.new.conn) c.in-Err.end c.in-Err.ensures.ends.stops)

pub returns-in_default-clause-serves : goal.returns-in_default-clause-serves
returns-in_default-clause-serves g c old p =
    let caller : Caller = g.S.Service.caller c.args.service.now in
    let reads = g.met.C.Connection.reads_leave_writes in
    let writes = g.met.C.Connection.writes_leave_reads in
    let out : g.C.Sink.outgoing c.next_frame.new.conn ≡ g.C.Sink.outgoing c.args.conn.now =
    sym (reads c.next_frame.new.conn) ∙ (c.next_frame.ensures.stays.other_half ∙ reads c.args.conn.now) in
    let inc : g.C.Source.incoming c.write_all.new.sink ≡ g.C.Source.incoming c.next_frame.new.conn =
    sym (writes c.write_all.new.sink) ∙ (c.write_all.ensures.beside ∙ writes c.next_frame.new.conn) in
    let served = served_read caller c.args.limit c.args.self.now.left c.next_frame.new.self.left c.args.self.now.buffer.bytes c.next_frame.new.self.buffer.bytes old
    (record { front = g.S.Service.front c.args.service.now; incoming = g.C.Source.incoming c.args.conn.now; outgoing = g.C.Sink.outgoing c.args.conn.now })
    (g.C.Source.incoming c.next_frame.new.conn) p c.in-Ok.ensures.reads.read c.in-Ok.ensures.reads.faults in
    let P : Incoming → Type 0 = λ i. ServesRequests caller c.args.limit old
    (record { front = g.S.Service.front c.respond-answer.new.service; incoming = i; outgoing = g.C.Sink.outgoing c.write_all.new.sink }) end_of.WriteFault in
    subst P (sym inc)
    (serves_part caller c.args.limit c.next_frame.new.self.left c.next_frame.new.self.buffer.bytes old
    (record { front = g.S.Service.front c.args.service.now; incoming = g.C.Source.incoming c.next_frame.new.conn; outgoing = g.C.Sink.outgoing c.args.conn.now }) served
    c.respond-answer.result.len c.respond-answer.result.closing c.respond-answer.result.told (g.S.Service.front c.respond-answer.new.service) c.respond-answer.ensures.answers
    c.render.new.text.items c.render.ensures.text (g.C.Sink.outgoing c.write_all.new.sink) (rw (c.as_slice.ensures.value, out) at c.in_default.ensures.part) (rw out at c.in_default.ensures.faults))

pub returns-then-answer-clause-serves : goal.returns-then-answer-clause-serves
returns-then-answer-clause-serves g c old p =
    let caller : Caller = g.S.Service.caller c.args.service.now in
    let reads = g.met.C.Connection.reads_leave_writes in
    let writes = g.met.C.Connection.writes_leave_reads in
    let out : g.C.Sink.outgoing c.next_frame.new.conn ≡ g.C.Sink.outgoing c.args.conn.now =
    sym (reads c.next_frame.new.conn) ∙ (c.next_frame.ensures.stays.other_half ∙ reads c.args.conn.now) in
    let inc : g.C.Source.incoming c.write_all.new.sink ≡ g.C.Source.incoming c.next_frame.new.conn =
    sym (writes c.write_all.new.sink) ∙ (c.write_all.ensures.beside ∙ writes c.next_frame.new.conn) in
    let served = served_read caller c.args.limit c.args.self.now.left c.next_frame.new.self.left c.args.self.now.buffer.bytes c.next_frame.new.self.buffer.bytes old
    (record { front = g.S.Service.front c.args.service.now; incoming = g.C.Source.incoming c.args.conn.now; outgoing = g.C.Sink.outgoing c.args.conn.now })
    (g.C.Source.incoming c.next_frame.new.conn) p c.in-Ok.ensures.reads.read c.in-Ok.ensures.reads.faults in
    let P : Incoming → Type 0 = λ i. ServesRequests caller c.args.limit old
    (record { front = g.S.Service.front c.respond-answer.new.service; incoming = i; outgoing = g.C.Sink.outgoing c.write_all.new.sink }) end_of.Done in
    subst P (sym inc)
    (serves_last caller c.args.limit c.next_frame.new.self.left c.next_frame.new.self.buffer.bytes old
    (record { front = g.S.Service.front c.args.service.now; incoming = g.C.Source.incoming c.next_frame.new.conn; outgoing = g.C.Sink.outgoing c.args.conn.now }) served
    c.respond-answer.result.len c.respond-answer.result.closing c.respond-answer.result.told (g.S.Service.front c.respond-answer.new.service) c.respond-answer.ensures.answers
    c.render.new.text.items c.render.ensures.text (g.C.Sink.outgoing c.write_all.new.sink) c.if-answer.true (rw (c.as_slice.ensures.value, out) at c.in-Ok-write_all.ensures.ok) (rw out at c.in-Ok-write_all.ensures.faults))

pub returns-clause-serves : goal.returns-clause-serves
returns-clause-serves g c old p =
    let caller : Caller = g.S.Service.caller c.args.service.now in
    let reads = g.met.C.Connection.reads_leave_writes in
    let writes = g.met.C.Connection.writes_leave_reads in
    let out : g.C.Sink.outgoing c.next_frame.new.conn ≡ g.C.Sink.outgoing c.args.conn.now =
    sym (reads c.next_frame.new.conn) ∙ (c.next_frame.ensures.stays.other_half ∙ reads c.args.conn.now) in
    let inc : g.C.Source.incoming c.write_all.new.sink ≡ g.C.Source.incoming c.next_frame.new.conn =
    sym (writes c.write_all.new.sink) ∙ (c.write_all.ensures.beside ∙ writes c.next_frame.new.conn) in
    let served = served_read caller c.args.limit c.args.self.now.left c.next_frame.new.self.left c.args.self.now.buffer.bytes c.next_frame.new.self.buffer.bytes old
    (record { front = g.S.Service.front c.args.service.now; incoming = g.C.Source.incoming c.args.conn.now; outgoing = g.C.Sink.outgoing c.args.conn.now })
    (g.C.Source.incoming c.next_frame.new.conn) p c.in-Ok.ensures.reads.read c.in-Ok.ensures.reads.faults in
    served_as caller c.args.limit c.next_frame.new.self.left c.respond-answer.new.self.left
    (drop c.respond-answer.result.len c.next_frame.new.self.buffer.bytes) c.skip.new.self.bytes old (g.S.Service.front c.respond-answer.new.service)
    (g.C.Source.incoming c.next_frame.new.conn) (g.C.Source.incoming c.write_all.new.sink) (g.C.Sink.outgoing c.write_all.new.sink)
    (sym (ap (λ (s : Server). s.left) c.respond-answer.ensures.kept))
    (sym (c.skip.ensures ∙ ap (λ (s : Server). drop c.respond-answer.result.len s.buffer.bytes) c.respond-answer.ensures.kept))
    (sym inc)
    (served_more caller c.args.limit c.next_frame.new.self.left c.next_frame.new.self.buffer.bytes old
    (record { front = g.S.Service.front c.args.service.now; incoming = g.C.Source.incoming c.next_frame.new.conn; outgoing = g.C.Sink.outgoing c.args.conn.now }) served
    c.respond-answer.result.len c.respond-answer.result.closing c.respond-answer.result.told (g.S.Service.front c.respond-answer.new.service) c.respond-answer.ensures.answers
    c.render.new.text.items c.render.ensures.text (g.C.Sink.outgoing c.write_all.new.sink) c.if-answer.false (rw (c.as_slice.ensures.value, out) at c.in-Ok-write_all.ensures.ok) (rw out at c.in-Ok-write_all.ensures.faults))

pub returns-in-Err-clause-in_turns : goal.returns-in-Err-clause-in_turns
returns-in-Err-clause-in_turns g c first p =
    stops_reading g.C.Source.read_gives g.C.Sink.write_gives c.args.limit c.args.self.now.left c.next_frame.new.self.left c.args.self.now.buffer.bytes c.next_frame.new.self.buffer.bytes
    first c.args.conn.now c.next_frame.new.conn p c.in-Err.end c.in-Err.ensures.ends.calls

pub returns-in_default-clause-in_turns : goal.returns-in_default-clause-in_turns
returns-in_default-clause-in_turns g c first p =
    stops_failed g.C.Source.read_gives g.C.Sink.write_gives c.args.limit c.args.self.now.left c.next_frame.new.self.left c.args.self.now.buffer.bytes c.next_frame.new.self.buffer.bytes
    first c.args.conn.now c.next_frame.new.conn p c.in-Ok.ensures.reads.calls
    (g.S.Service.caller c.args.service.now) (g.S.Service.front c.args.service.now) (g.S.Service.front c.respond-answer.new.service)
    c.respond-answer.result.len c.respond-answer.result.closing c.respond-answer.result.told c.respond-answer.ensures.answers c.render.new.text.items c.render.ensures.text c.write_all.new.sink
    (rw c.as_slice.ensures.value at c.in_default.ensures.writes)

pub returns-then-answer-clause-in_turns : goal.returns-then-answer-clause-in_turns
returns-then-answer-clause-in_turns g c first p =
    stops_closing g.C.Source.read_gives g.C.Sink.write_gives c.args.limit c.args.self.now.left c.next_frame.new.self.left c.args.self.now.buffer.bytes c.next_frame.new.self.buffer.bytes
    first c.args.conn.now c.next_frame.new.conn p c.in-Ok.ensures.reads.calls
    (g.S.Service.caller c.args.service.now) (g.S.Service.front c.args.service.now) (g.S.Service.front c.respond-answer.new.service)
    c.respond-answer.result.len c.respond-answer.result.closing c.respond-answer.result.told c.respond-answer.ensures.answers c.render.new.text.items c.render.ensures.text c.write_all.new.sink
    (end_of.Done ≡ end_of.Done) c.if-answer.true (rw c.as_slice.ensures.value at c.in-Ok-write_all.ensures.writes)

pub returns-clause-in_turns : goal.returns-clause-in_turns
returns-clause-in_turns g c first p =
    had_as g.C.Source.read_gives g.C.Sink.write_gives c.args.limit c.next_frame.new.self.left c.respond-answer.new.self.left
    (drop c.respond-answer.result.len c.next_frame.new.self.buffer.bytes) c.skip.new.self.bytes first c.write_all.new.sink
    (sym (ap (λ (s : Server). s.left) c.respond-answer.ensures.kept))
    (sym (c.skip.ensures ∙ ap (λ (s : Server). drop c.respond-answer.result.len s.buffer.bytes) c.respond-answer.ensures.kept))
    (had_more g.C.Source.read_gives g.C.Sink.write_gives c.args.limit c.args.self.now.left c.next_frame.new.self.left c.args.self.now.buffer.bytes c.next_frame.new.self.buffer.bytes
    first c.args.conn.now c.next_frame.new.conn p c.in-Ok.ensures.reads.calls
    (g.S.Service.caller c.args.service.now) (g.S.Service.front c.args.service.now) (g.S.Service.front c.respond-answer.new.service)
    c.respond-answer.result.len c.respond-answer.result.closing c.respond-answer.result.told c.respond-answer.ensures.answers c.render.new.text.items c.render.ensures.text c.write_all.new.sink
    c.if-answer.false (rw c.as_slice.ensures.value at c.in-Ok-write_all.ensures.writes))
