-- Sources, sinks and gates over std's readers, writers and networks, as contracts see them.
use Rattle.std.specs.Prelude.{◌≡◌, ℕ, Bool, false, List, [], Option, Some, None}
use Rattle.funnel_io.specs.declared.opened_file.OpenedFile.{OpenedFile}
use Rattle.funnel_io.specs.declared.opened_file.OpenedFile.TheVariants.{Absent, Open, Refused}

-- a reader or a writer, and how many of its calls failed
pub record Counting (X : Type 0) : Type 0 where
  pub inner : X
  pub faults : ℕ

-- what is left of a file: nothing where there is no such file, and not told where it could not be opened
abbrev pub file_remaining : {F : Type 0} → (F → Option (List ℕ)) → OpenedFile F → Option (List ℕ)
file_remaining remaining Absent = Some []
file_remaining remaining (Open file) = remaining file
file_remaining remaining (Refused kind) = None

-- how many reads and how many writes of a connection failed
pub record ConnFaults : Type 0 where
  pub reads : ℕ
  pub writes : ℕ

-- none of them failed
abbrev pub IsUnfailed : ConnFaults → Type 0
IsUnfailed conn = (conn.reads ≡ 0) × (conn.writes ≡ 0)

-- a gate on a port, whether it shares this with others, for how many seconds a read or a write of its connections waits at most, or 0,
-- whether it listens, and how many of its calls failed
pub record PortGate : Type 0 where
  pub port : ℕ
  pub shared : Bool
  pub idle : ℕ
  pub listens : Bool
  pub faults : ℕ

-- a gate that does not listen yet, on a shared port or on one of its own
abbrev pub new_gate : Bool → ℕ → ℕ → PortGate
new_gate shared idle port = record { port = port; shared = shared; idle = idle; listens = false; faults = 0 }

-- it is a gate on the same port, which it shares as before, and its connections wait as long
pub record IsSameGate (before after : PortGate) : Type 0 where
  pub port : after.port ≡ before.port
  pub shared : after.shared ≡ before.shared
  pub idle : after.idle ≡ before.idle
