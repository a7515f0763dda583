-- What contracts see of a gate and its connections. What the traits tell of these is handed on as three records of their ghost members:
-- `gate` has those of a gate, `source` and `sink` those of its connections.
use Rattle.std.specs.Prelude.{ℕ, Bool, List, Option, map}
use Rattle.std.specs.Option.{option_map}
use Rattle.funnel_io.specs.Served.{Served}
use Rattle.funnel_io.specs.Streams.{Incoming, Outgoing}
use Rattle.funnel_io.specs.declared.gate.Gate as Gate
use Rattle.funnel_io.specs.declared.sink.Sink as Sink
use Rattle.funnel_io.specs.declared.source.Source as Source

-- the two sides of a connection
pub record Sides : Type 0 where
  pub incoming : Incoming
  pub outgoing : Outgoing

-- those of a connection, by what it tells of each
abbrev pub sides_of : {C : Type 0} → Source.Ghosts C → Sink.Ghosts C → C → Sides
sides_of source sink conn = record { incoming = source.incoming conn; outgoing = sink.outgoing conn }

-- a gate: whether it is closed, how many of its calls failed, and, where it tells them, the connections that wait and those that came back
pub record GateState : Type 0 where
  pub is_closed : Bool
  pub faults : ℕ
  pub waiting : Option (List Sides)
  pub served : Option (List Served)

-- the state of a gate, by what it tells of itself and what each of its connections tells
abbrev pub gate_state : {G C : Type 0} → Gate.Ghosts G C → Source.Ghosts C → Sink.Ghosts C → G → GateState
gate_state gate source sink one = record {
  is_closed = gate.is_closed one;
  faults = gate.gate_faults one;
  waiting = option_map (map (sides_of source sink)) (gate.waiting one);
  served = gate.served one;
}
