-- What contracts see of a stream of bytes.
use Rattle.std.specs.Prelude.{ℕ, ◌<◌, List, length, take, Option, None}
use Rattle.std.specs.Io.KnownBytes.{Appends, Consumes}

-- what is read: the bytes that are left and those that were taken so far, where the stream tells them, and how many reads failed
pub record Incoming : Type 0 where
  pub left : Option (List ℕ)
  pub taken : Option (List ℕ)
  pub faults : ℕ

-- what is written: the bytes that were written so far, where the stream tells them, and how many writes failed
pub record Outgoing : Type 0 where
  pub written : Option (List ℕ)
  pub faults : ℕ

-- the incoming side of what is only written
abbrev pub nothing_read : Incoming
nothing_read = record { left = None; taken = None; faults = 0 }

-- the outgoing side of what is only read
abbrev pub nothing_written : Outgoing
nothing_written = record { written = None; faults = 0 }

-- these are the first of the bytes that were left, and now stand at the end of those taken
pub record Takes (bytes : List ℕ) (old new : Incoming) : Type 0 where
  pub left : Consumes old.left new.left bytes
  pub taken : Appends old.taken new.taken bytes

-- these now stand at the end of the bytes written
abbrev pub Writes : List ℕ → Outgoing → Outgoing → Type 0
Writes bytes old new = Appends old.written new.written bytes

-- the first few of the bytes, and not all of them, were written
pub record WritesPart (bytes : List ℕ) (old new : Outgoing) : Type 0 where
  pub count : ℕ
  pub proper : count < length bytes
  pub writes : Writes (take count bytes) old new
