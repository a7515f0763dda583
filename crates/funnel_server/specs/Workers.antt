-- What a worker does: it answers the connections of its gate, one after another, by its pass.
use Rattle.std.specs.Prelude.{◌≡◌, ◌⊎◌, ℕ, ◌+◌, Bool, true, false, List, [], ◌∷◌, ◌++◌, length, map, IfSome}
use Rattle.std.specs.List.{All, list_any}
use Rattle.std.specs.Option.{option_map}
use Rattle.funnel_io.specs.Counts.{counted}
use Rattle.funnel_io.specs.Served.{IsFresh, Served, served_as}
use Rattle.funnel_io.specs.declared.end.End.{End}
use Rattle.funnel_io.specs.declared.end.End.TheVariants as end_of
use Rattle.funnel_model.specs.declared.event.Event.{Event}
use Rattle.line_proto.specs.Services.{Caller}
use Rattle.session.specs.Ends.{Stand}
use Rattle.funnel_server.specs.Gates.{GateState, Sides}
use Rattle.funnel_server.specs.Sessions.{IsServed}

-- a worker: what its gate tells, its pass and what the pass has seen, whether it answers requests over HTTP or lines, how many more
-- connections it serves, and whether its gate failed and whether a session of it found no memory
pub record WorkerState : Type 0 where
  pub gate : GateState
  pub caller : Caller
  pub front : List Event
  pub http : Bool
  pub left : ℕ
  pub fault : Bool
  pub memory : Bool

-- a worker and its gate itself, of which the worker's state has what it tells
pub record WorkerWithGate (G : Type 0) : Type 0 where
  pub gate : G
  pub state : WorkerState

-- a worker that met no fault and no want of memory yet
pub record HasMetNoFault (worker : WorkerState) : Type 0 where
  pub no_fault : worker.fault ≡ false
  pub no_memory : worker.memory ≡ false

-- a connection that was served: whether by its requests or its lines, where its session stood before and after, and how it ended
pub record Visit : Type 0 where
  pub http : Bool
  pub before : Stand
  pub after : Stand
  pub end : End

-- the connection was not used before, and was served by one session of the worker's pass; where there was no memory for the
-- session, nothing was touched
pub record IsVisit (caller : Caller) (visit : Visit) : Type 0 where
  pub fresh : IsFresh visit.before.incoming visit.before.outgoing
  pub serves : IsServed visit.http caller visit.before visit.after visit.end
  pub untouched : visit.end ≡ end_of.Memory → visit.after ≡ visit.before

-- the visits follow each other: each session begins with what the pass had seen at the end of the one before it
abbrev pub AreInOrder : List Event → List Visit → List Event → Type 0
AreInOrder front [] after = front ≡ after
AreInOrder front (visit ∷ visits) after = (visit.before.front ≡ front) × AreInOrder visit.after.front visits after

-- the connection as it came from the gate
abbrev pub sides_before : Visit → Sides
sides_before visit = record { incoming = visit.before.incoming; outgoing = visit.before.outgoing }

-- and as it went back
abbrev pub sides_after : Visit → Sides
sides_after visit = record { incoming = visit.after.incoming; outgoing = visit.after.outgoing }

-- what the gate keeps of it
abbrev pub served_by : Visit → Served
served_by visit = served_as visit.after.incoming visit.after.outgoing visit.end

-- a session that ended so found no memory
abbrev pub is_memory : End → Bool
is_memory end_of.Memory = true
is_memory _ = false

-- a worker served these connections, one after another: they are those that left the waiting ones, in order, and those that
-- came back to its gate; each was served as the worker serves
pub record HasServedVisits (before after : WorkerState) (visits : List Visit) : Type 0 where
  pub sessions : All (IsVisit before.caller) visits
  pub in_order : AreInOrder before.front visits after.front
  pub protocol : All (λ visit. visit.http ≡ before.http) visits
  pub same_pass : after.caller ≡ before.caller
  pub same_protocol : after.http ≡ before.http
  pub count : after.left + length visits ≡ before.left
  pub waited : before.gate.waiting ≡ option_map (λ rest. map sides_before visits ++ rest) after.gate.waiting
  pub served : after.gate.served ≡ option_map (λ earlier. earlier ++ map served_by visits) before.gate.served
  pub faults : after.gate.faults ≡ counted after.fault before.gate.faults
  pub memory : after.memory ≡ list_any (λ visit. is_memory visit.end) visits

-- no connection comes any more, and where the gate tells which ones wait, none does
pub record GivesNoMore (gate : GateState) : Type 0 where
  pub closed : gate.is_closed ≡ true
  pub none_waits : IfSome gate.waiting (λ sides. sides ≡ [])

-- a worker stops where it has served as many connections as it may, or its gate failed, or is closed
abbrev pub IsStopped : WorkerState → Type 0
IsStopped worker = (worker.left ≡ 0) ⊎ (worker.fault ≡ true) ⊎ GivesNoMore worker.gate

-- a worker served some connections and stopped
pub record Works (before after : WorkerState) : Type 0 where
  pub visits : List Visit
  pub serves : HasServedVisits before after visits
  pub stopped : IsStopped after
