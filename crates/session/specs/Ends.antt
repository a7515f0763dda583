-- How a session on a connection ends.
use Rattle.std.specs.Prelude.{◌≡◌, ◌<◌, ◌≤◌, ⊤, ℕ, Bool, true, false, List, length}
use Rattle.std.specs.Io.KnownBytes.{IsAtEnd}
use Rattle.funnel_io.specs.Counts.{counted}
use Rattle.funnel_io.specs.Lines.{lines}
use Rattle.funnel_io.specs.Streams.{Incoming, Outgoing, Takes, Writes}
use Rattle.funnel_io.specs.declared.end.End.{End}
use Rattle.funnel_io.specs.declared.end.End.TheVariants as end_of
use Rattle.funnel_model.specs.declared.event.Event.{Event}
use Rattle.line_proto.specs.Services.{Caller}
use Rattle.session.specs.Sessions.{Session}

-- where a session stands: the front of its pass, and the two sides of its connection
pub record Stand : Type 0 where
  pub front : List Event
  pub incoming : Incoming
  pub outgoing : Outgoing

-- a read failed
abbrev pub is_read_fault : End → Bool
is_read_fault end_of.ReadFault = true
is_read_fault _ = false

-- a write failed
abbrev pub is_write_fault : End → Bool
is_write_fault end_of.WriteFault = true
is_write_fault _ = false

-- the count of a fault rose by one where the session ended for it, and no other count did
pub record CountsFaults (old new : Stand) (end : End) : Type 0 where
  pub reads : new.incoming.faults ≡ counted (is_read_fault end) old.incoming.faults
  pub writes : new.outgoing.faults ≡ counted (is_write_fault end) old.outgoing.faults

-- how many bytes are taken: as many as may be with ByteLimit, fewer with Done and where a read failed, and no more where a write failed
abbrev pub IsWithin : ℕ → ℕ → End → Type 0
IsWithin limit count end_of.Done = count < limit
IsWithin limit count end_of.ReadFault = count < limit
IsWithin limit count end_of.WriteFault = count ≤ limit
IsWithin limit count (end_of.ByteLimit told) = (told ≡ limit) × (count ≡ limit)
IsWithin limit count end_of.Memory = ⊤

-- what is left to be read: nothing at the end of the input. So it is where a write failed, if more lines were answered than
-- newlines ended: the last of them ended at the end of the input, which was found below the limit
abbrev pub Leaves : (caller : Caller) (limit : ℕ) (old new : Stand) (taken written : List ℕ) (end : End) → Session caller old.front new.front taken written end → Type 0
Leaves caller limit old new taken written end_of.Done session = IsAtEnd new.incoming.left
Leaves caller limit old new taken written end_of.WriteFault session =
    length (lines taken false) < length session.first → IsAtEnd new.incoming.left × (length taken < limit)
Leaves caller limit old new taken written _ session = ⊤

-- a session took and wrote some bytes, and this is how it went and ended
pub record Serves (caller : Caller) (limit : ℕ) (old new : Stand) (end : End) : Type 0 where
  pub taken : List ℕ
  pub takes : Takes taken old.incoming new.incoming
  pub written : List ℕ
  pub writes : Writes written old.outgoing new.outgoing
  pub session : Session caller old.front new.front taken written end
  pub faults : CountsFaults old new end
  pub within : IsWithin limit (length taken) end
  pub leaves : Leaves caller limit old new taken written end session
