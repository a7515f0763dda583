-- What the answer of a read, a write or a gate tells.
use Rattle.std.specs.Prelude.{ℕ, Bool, true, false, List, [], take}
use Rattle.funnel_io.specs.declared.gate.Next.{Next}
use Rattle.funnel_io.specs.declared.gate.Next.TheVariants as next
use Rattle.funnel_io.specs.declared.gate.Opening.{Opening}
use Rattle.funnel_io.specs.declared.gate.Opening.TheVariants as opening
use Rattle.funnel_io.specs.declared.source.Got.{Got}
use Rattle.funnel_io.specs.declared.source.Got.TheVariants as got
use Rattle.funnel_io.specs.declared.sink.Put.{Put}
use Rattle.funnel_io.specs.declared.sink.Put.TheVariants as put

-- a fact of the number of bytes read, one for the end and one for a failure
abbrev pub MatchGot : Got → (ℕ → Type 0) → Type 0 → Type 0 → Type 0
MatchGot (got.Bytes n) P Q R = P n
MatchGot got.End P Q R = Q
MatchGot got.Failed P Q R = R

-- a fact of the number of bytes written, and one for a failure
abbrev pub MatchPut : Put → (ℕ → Type 0) → Type 0 → Type 0
MatchPut (put.Bytes n) P Q = P n
MatchPut put.Failed P Q = Q

-- a fact of the connection that a gate handed out, one for a closed gate and one for a fault
abbrev pub MatchNext : {C : Type 0} → Next C → (C → Type 0) → Type 0 → Type 0 → Type 0
MatchNext (next.Conn conn) P Q R = P conn
MatchNext next.Closed P Q R = Q
MatchNext next.Fault P Q R = R

-- the bytes that a read gave, which stand at the front of the room
abbrev pub bytes_got : Got → List ℕ → List ℕ
bytes_got (got.Bytes n) room = take n room
bytes_got got.End room = []
bytes_got got.Failed room = []

-- the bytes that a write took, which stand at the front of the piece
abbrev pub bytes_put : Put → List ℕ → List ℕ
bytes_put (put.Bytes n) piece = take n piece
bytes_put put.Failed piece = []

-- the read failed
abbrev pub read_failed : Got → Bool
read_failed (got.Bytes n) = false
read_failed got.End = false
read_failed got.Failed = true

-- the write failed
abbrev pub write_failed : Put → Bool
write_failed (put.Bytes n) = false
write_failed put.Failed = true

-- the gate failed
abbrev pub gate_failed : {C : Type 0} → Next C → Bool
gate_failed (next.Conn conn) = false
gate_failed next.Closed = false
gate_failed next.Fault = true

-- a fact of a gate that opened, and one of a gate that failed to
abbrev pub MatchOpening : Opening → Type 0 → Type 0 → Type 0
MatchOpening opening.Open P Q = P
MatchOpening opening.Fault P Q = Q

-- the gate failed to open
abbrev pub opening_failed : Opening → Bool
opening_failed opening.Open = false
opening_failed opening.Fault = true
