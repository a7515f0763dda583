-- Gates in memory, as contracts see them.
use Rattle.std.specs.Prelude.{◌≡◌, ◌↔◌, ℕ, ◌+◌, ◌-◌, Bool, List, [], ◌∷◌, ◌++◌, Contains}
use Rattle.funnel_io.specs.Counts.{raised, counted}
use Rattle.funnel_io.specs.Answers.{MatchNext, gate_failed, opening_failed}
use Rattle.funnel_io.specs.Memory.{SourceState, SinkState, incoming_of, outgoing_of}
use Rattle.funnel_io.specs.declared.end.End.{End}
use Rattle.funnel_io.specs.declared.gate.Next.{Next}
use Rattle.funnel_io.specs.declared.gate.Next.TheVariants as next
use Rattle.funnel_io.specs.declared.gate.Opening.{Opening}
use Rattle.funnel_io.specs.Served.{Served, served_as, IsFresh}
use Rattle.funnel_io.specs.declared.duplex.Duplex.{Duplex}
use Rattle.funnel_io.specs.declared.served_conn.ServedConn.{ServedConn}

-- a connection of a source and a sink in memory
abbrev pub MemConn : Type 0
MemConn = Duplex SourceState SinkState

-- a gate: the connections that wait, how many are out, those that came back, the number of calls
-- of `next` made, the numbers of those that fail, the count of calls that failed, whether it refuses
-- to be opened, and how many calls of `open` and of `end` were made
pub record MemGateState : Type 0 where
  pub waiting : List MemConn
  pub out : ℕ
  pub served : List ServedConn
  pub calls : ℕ
  pub fails : List ℕ
  pub faults : ℕ
  pub refuses : Bool
  pub opened : ℕ
  pub ended : ℕ

-- nothing was read from the connection or written to it, and no call on it failed
abbrev pub IsUnused : MemConn → Type 0
IsUnused conn = IsFresh (incoming_of conn.source) (outgoing_of conn.sink)

-- what a gate tells of a connection that came back
abbrev pub served_of : ServedConn → Served
served_of served = served_as (incoming_of served.conn.source) (outgoing_of served.conn.sink) served.session_end

-- a call of `next` is the next by number, fails by its number alone, and otherwise gives the first
-- connection that waits
pub record IsNext (old : MemGateState) (answer : Next MemConn) (new : MemGateState) : Type 0 where
  pub calls : new.calls ≡ raised old.calls
  pub fails : new.fails ≡ old.fails
  pub by_number : (answer ≡ next.Fault) ↔ Contains old.fails new.calls
  pub faults : new.faults ≡ counted (gate_failed answer) old.faults
  pub waiting : MatchNext answer (λ conn. old.waiting ≡ conn ∷ new.waiting)
      ((old.waiting ≡ []) × (new.waiting ≡ [])) (new.waiting ≡ old.waiting)
  pub out : MatchNext answer (λ _. new.out ≡ old.out + 1) (new.out ≡ old.out) (new.out ≡ old.out)
  pub served : new.served ≡ old.served
  pub refuses : new.refuses ≡ old.refuses
  pub opened : new.opened ≡ old.opened
  pub ended : new.ended ≡ old.ended

-- a connection that comes back stands behind those that came back before, with the end of its session
abbrev pub IsTakenBack : MemGateState → MemConn → End → MemGateState → Type 0
IsTakenBack old conn end new = new ≡ record old { out = old.out - 1; served = old.served ++ record { conn = conn; session_end = end } ∷ [] }

-- an opening fails exactly at a gate that refuses to be opened, and is counted
pub record IsOpened (old : MemGateState) (answer : Opening) (new : MemGateState) : Type 0 where
  pub refused : opening_failed answer ≡ old.refuses
  pub changes : new ≡ record old { faults = counted old.refuses old.faults; opened = raised old.opened }

-- an end is counted
abbrev pub IsEnded : MemGateState → MemGateState → Type 0
IsEnded old new = new ≡ record old { ended = raised old.ended }
