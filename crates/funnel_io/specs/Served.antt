-- What a gate keeps of a connection that came back.
use Rattle.std.specs.Prelude.{◌≡◌, ℕ, List, [], Option, IfSome}
use Rattle.funnel_io.specs.Streams.{Incoming, Outgoing}
use Rattle.funnel_io.specs.declared.end.End.{End}

-- the bytes that came in and went out, where they are told, the two counts of faults, and the end
pub record Served : Type 0 where
  pub bytes_in : Option (List ℕ)
  pub bytes_out : Option (List ℕ)
  pub read_faults : ℕ
  pub write_faults : ℕ
  pub session_end : End

-- what is kept of a connection with these two sides
abbrev pub served_as : Incoming → Outgoing → End → Served
served_as incoming outgoing end = record {
  bytes_in = incoming.taken;
  bytes_out = outgoing.written;
  read_faults = incoming.faults;
  write_faults = outgoing.faults;
  session_end = end;
}

-- nothing was read or written, and no call failed
pub record IsFresh (incoming : Incoming) (outgoing : Outgoing) : Type 0 where
  pub nothing_read : IfSome incoming.taken (λ bytes. bytes ≡ [])
  pub nothing_written : IfSome outgoing.written (λ bytes. bytes ≡ [])
  pub no_read_fault : incoming.faults ≡ 0
  pub no_write_fault : outgoing.faults ≡ 0
