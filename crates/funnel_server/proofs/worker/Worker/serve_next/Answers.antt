use Rattle.std.proofs.Common.{◌≡◌, ◌<◌, ◌||◌, ◌∷◌, ◌++◌, false, List, [], IfSome, ◌∙◌, ap, sym, refl, subst, inl, inr, arith}
use Rattle.std.specs.Option.{option_map}
use Rattle.funnel_io.specs.Served.{Served}
use Rattle.funnel_server.specs.GateTurns.{none_by}
use Rattle.funnel_server.specs.Workers.{Visit, served_by}
use Rattle.funnel_server.proofs.Visits.{first_waited, none_wait}
use Rattle.funnel_io.specs.Counts.{counted}
use Rattle.funnel_server.proofs.worker.Worker.serve_next.Goals as goal

pub returns-in-Closed : goal.returns-in-Closed
returns-in-Closed g c =
    let no_fault : false ≡ c.self.inside.fault = subst (λ w. false ≡ w.state.fault) (sym c.self.view_is) (sym c.requires.no_fault) in
    rw (← c.self.view_is) (record {
      gets = record {
        some_left = subst (λ w. 0 < w.state.left) (sym c.self.view_is) c.requires.some;
        others = refl;
        waited = ap (option_map _) c.in-Closed.ensures.waiting;
        served = c.in-Closed.ensures.served;
        faults = c.in-Closed.ensures.faults ∙ ap (λ b. counted b (g.G.Gate.gate_faults c.self.inside.gate)) no_fault;
        why = inr (record {
          closed = c.in-Closed.ensures.is_closed;
          none_waits = none_wait _ _ (subst (λ conns. IfSome conns (λ list. list ≡ [])) (sym c.in-Closed.ensures.waiting) c.in-Closed.ensures.closed);
        });
      };
      asked = subst (λ b. g.G.Gate.next_gives c.self.inside.gate (none_by b) c.next.new.self) no_fault c.in-Closed.ensures.gives;
    })

pub returns-in-Fault : goal.returns-in-Fault
returns-in-Fault g c =
    rw (← c.self.view_is) (record {
      gets = record {
        some_left = subst (λ w. 0 < w.state.left) (sym c.self.view_is) c.requires.some;
        others = refl;
        waited = ap (option_map _) c.in-Fault.ensures.waiting;
        served = c.in-Fault.ensures.served;
        faults = c.in-Fault.ensures.faults;
        why = inl refl;
      };
      asked = c.in-Fault.ensures.gives;
    })

pub returns : goal.returns
returns g c =
    let visit : Visit = record {
      http = c.self.inside.http;
      before = record { front = c.self.inside.client.front; incoming = g.G.Conn.Source.incoming c.in-Conn.conn; outgoing = g.G.Conn.Sink.outgoing c.in-Conn.conn };
      after = record { front = c.serve_conn-end.new.client.front; incoming = g.G.Conn.Source.incoming c.serve_conn-end.new.conn; outgoing = g.G.Conn.Sink.outgoing c.serve_conn-end.new.conn };
      end = c.serve_conn-end.result;
    } in
    rw (← c.self.view_is) (record {
      serves = record {
        visit = visit;
        session = record {
          fresh = c.in-Conn.ensures.fresh;
          serves = c.serve_conn-end.ensures.serves;
          untouched = λ memory.
              let same = c.serve_conn-end.ensures.untouched memory in
              λ i. record { front = (same.1 i).front; incoming = g.G.Conn.Source.incoming (same.0 i); outgoing = g.G.Conn.Sink.outgoing (same.0 i) };
        };
        begins = refl;
        ends = refl;
        protocol = refl;
        same_protocol = refl;
        same_pass = c.serve_conn-end.ensures.caller;
        count = omega (arith, subst (λ w. 0 < w.state.left) (sym c.self.view_is) c.requires.some);
        waited = first_waited _ c.in-Conn.conn (g.G.Gate.waiting c.self.inside.gate) (g.G.Gate.waiting c.next.new.self) (g.G.Gate.waiting c.done.new.self) c.in-Conn.ensures.waiting c.done.ensures.waiting;
        served = c.done.ensures.served ∙ ap (option_map (λ (earlier : List Served). earlier ++ served_by visit ∷ [])) c.in-Conn.ensures.served;
        faults = c.done.ensures.count ∙ c.in-Conn.ensures.faults;
        no_fault = refl;
        memory = ap (λ b. c.self.inside.memory || b) c.found_no_memory.ensures;
      };
      turn = record {
        handed_out = c.in-Conn.conn;
        middle = c.next.new.self;
        asked = c.in-Conn.ensures.gives;
        handed_back = c.serve_conn-end.new.conn;
        lines = c.serve_conn-end.ensures.by_line;
        requests = c.serve_conn-end.ensures.by_request;
        untouched = λ memory. (c.serve_conn-end.ensures.untouched memory).0;
        done = c.done.ensures.gives;
        came = refl;
        went = refl;
      };
    })
