-- How a connection of requests ends.
use Rattle.std.specs.Prelude.{◌≡◌, ◌<◌, ◌≤◌, ◌⊎◌, ⊤, ℕ, List, length}
use Rattle.std.specs.Io.KnownBytes.{IsAtEnd}
use Rattle.funnel_io.specs.Streams.{Takes, Writes}
use Rattle.funnel_io.specs.declared.end.End.{End}
use Rattle.funnel_io.specs.declared.end.End.TheVariants as end_of
use Rattle.line_proto.specs.Services.{Caller}
use Rattle.session.specs.Ends.{CountsFaults, Stand}
use Rattle.http_front.specs.Sessions.{Closes, Session}

-- how many bytes are taken, and what is left: with Done a response closed the connection, or the input is at its end, which was
-- found below the limit; as many as may be with ByteLimit, and fewer where a read failed
abbrev pub IsOver : (caller : Caller) (limit : ℕ) (old new : Stand) (taken written : List ℕ) (end : End) → Session caller old.front new.front taken written end → Type 0
IsOver caller limit old new taken written end_of.Done session =
    (Closes session.exchanges × (length taken ≤ limit)) ⊎ (IsAtEnd new.incoming.left × (length taken < limit))
IsOver caller limit old new taken written end_of.ReadFault session = length taken < limit
IsOver caller limit old new taken written end_of.WriteFault session = length taken ≤ limit
IsOver caller limit old new taken written (end_of.ByteLimit told) session = (told ≡ limit) × (length taken ≡ limit)
IsOver caller limit old new taken written end_of.Memory session = ⊤

-- a connection took and wrote some bytes, and this is how it went and ended
pub record ServesRequests (caller : Caller) (limit : ℕ) (old new : Stand) (end : End) : Type 0 where
  pub taken : List ℕ
  pub takes : Takes taken old.incoming new.incoming
  pub written : List ℕ
  pub writes : Writes written old.outgoing new.outgoing
  pub session : Session caller old.front new.front taken written end
  pub faults : CountsFaults old new end
  pub over : IsOver caller limit old new taken written end session
