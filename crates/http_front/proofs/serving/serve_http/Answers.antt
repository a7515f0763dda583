use Rattle.std.proofs.Common.{◌≡◌, ◌∙◌, [], sym, refl, subst}
use Rattle.line_proto.specs.Services.{Caller}
use Rattle.session.specs.Ends.{Stand}
use Rattle.http_front.specs.Steps.{HasServed}
use Rattle.http_front.proofs.Progress.{served_as, served_none}
use Rattle.session.proofs.Turns.{stops_at_once}
use Rattle.http_front.proofs.TurnLaws.{had_as, had_none}
use Rattle.http_front.specs.Turns.{request_by_request}
use Rattle.funnel_io.specs.declared.end.End.TheVariants as end_of
use Rattle.http_front.proofs.serving.serve_http.Goals as goal

pub loop-end-init : goal.loop-end-init
loop-end-init g c = record {
  ready = c.in-Ok.ensures.0;
  caller = refl;
  borrowed = refl;
  turns = had_as g.C.Source.read_gives g.C.Sink.write_gives c.args.limit c.args.limit c.in-Ok.server.left [] c.in-Ok.server.buffer.bytes c.args.conn.now c.args.conn.now
      (sym c.in-Ok.ensures.2) (sym c.in-Ok.ensures.1) (had_none g.C.Source.read_gives g.C.Sink.write_gives c.args.limit c.args.conn.now);
  served = served_as (g.S.Service.caller c.args.service.now) c.args.limit c.args.limit c.in-Ok.server.left [] c.in-Ok.server.buffer.bytes
      (record { front = g.S.Service.front c.args.service.now; incoming = g.C.Source.incoming c.args.conn.now; outgoing = g.C.Sink.outgoing c.args.conn.now })
      (g.S.Service.front c.args.service.now) (g.C.Source.incoming c.args.conn.now) (g.C.Source.incoming c.args.conn.now) (g.C.Sink.outgoing c.args.conn.now)
      (sym c.in-Ok.ensures.2) (sym c.in-Ok.ensures.1) refl
      (served_none (g.S.Service.caller c.args.service.now) c.args.limit
      (record { front = g.S.Service.front c.args.service.now; incoming = g.C.Source.incoming c.args.conn.now; outgoing = g.C.Sink.outgoing c.args.conn.now }));
}

pub loop-end-preserved : goal.loop-end-preserved
loop-end-preserved g c =
    let old : Stand = record { front = g.S.Service.front c.args.service.now; incoming = g.C.Source.incoming c.args.conn.now; outgoing = g.C.Sink.outgoing c.args.conn.now } in
    let P : Caller → Type 0 = λ caller.
    HasServed caller c.args.limit c.loop-end.server.left c.loop-end.server.buffer.bytes old
    (record { front = g.S.Service.front c.loop-end.service; incoming = g.C.Source.incoming c.loop-end.conn; outgoing = g.C.Sink.outgoing c.loop-end.conn })
    → HasServed caller c.args.limit c.turn.new.self.left c.turn.new.self.buffer.bytes old
    (record { front = g.S.Service.front c.turn.new.service; incoming = g.C.Source.incoming c.turn.new.conn; outgoing = g.C.Sink.outgoing c.turn.new.conn }) in
    record {
      ready = c.in_default-turn.ensures.ready;
      caller = c.in_default-turn.ensures.caller ∙ c.loop-end.invariant.caller;
      borrowed = c.in_default-turn.ensures.borrowed ∙ c.loop-end.invariant.borrowed;
      turns = c.in_default-turn.ensures.in_turns c.args.conn.now c.loop-end.invariant.turns;
      served = subst P c.loop-end.invariant.caller (c.in_default-turn.ensures.serves old) c.loop-end.invariant.served;
    }

pub returns-in_default-clause-in_turns : goal.returns-in_default-clause-in_turns
returns-in_default-clause-in_turns g c = stops_at_once request_by_request g.C.Source.read_gives g.C.Sink.write_gives c.args.limit (end_of.Memory ≡ end_of.Done) c.args.conn.now (λ is. cc)

pub returns-in-Some-clause-in_turns : goal.returns-in-Some-clause-in_turns
returns-in-Some-clause-in_turns g c = c.in-Some.ensures.in_turns c.args.conn.now c.loop-end.invariant.turns
