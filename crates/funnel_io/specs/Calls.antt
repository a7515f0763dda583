-- Calls on a stream, one after another.
use Rattle.std.specs.Prelude.{◌≡◌, ◌-◌, ◌<◌, ◌≤◌, ◌⊎◌, ⊤, ℕ, Bool, true, false, List, [], ◌∷◌, ◌++◌, length, MatchBool}
use Rattle.funnel_io.specs.Answers.{MatchGot, MatchPut, bytes_put, read_failed}
use Rattle.funnel_io.specs.declared.source.Got.{Got}
use Rattle.funnel_io.specs.declared.source.Got.TheVariants as got
use Rattle.funnel_io.specs.declared.sink.Put.{Put}

-- a read: the room that it was handed, what it answered, and the bytes that it gave
pub record Read : Type 0 where
  pub room : ℕ
  pub answer : Got
  pub bytes : List ℕ

-- so much room is enough for a read: for 64 bytes, or for all bytes that may be taken where these are fewer
abbrev pub IsRoomFor : ℕ → ℕ → Type 0
IsRoomFor room may = (64 ≤ room) ⊎ (room ≡ may)

-- a write: the piece that it was handed, and what it answered
pub record Write : Type 0 where
  pub piece : List ℕ
  pub answer : Put

-- calls, of which the last comes first, lead from one state to another
abbrev pub Leads : {S C : Type 0} → (S → C → S → Type 0) → S → List C → S → Type 0
Leads gives before [] after = before ≡ after
Leads gives before (call ∷ earlier) after = (middle : _) × Leads gives before earlier middle × gives middle call after

-- the bytes that the reads gave
abbrev pub bytes_read : List Read → List ℕ
bytes_read [] = []
bytes_read (read ∷ earlier) = bytes_read earlier ++ read.bytes

-- a read, after these, comes before so many bytes were taken, and has room enough for those that may still be
pub record IsReadBelow (limit : ℕ) (earlier : List Read) (room : ℕ) : Type 0 where
  pub some : length (bytes_read earlier) < limit
  pub enough : IsRoomFor room (limit - length (bytes_read earlier))

-- so it is with each of the reads
abbrev pub AreBelow : ℕ → List Read → Type 0
AreBelow limit [] = ⊤
AreBelow limit (read ∷ earlier) = AreBelow limit earlier × IsReadBelow limit earlier read.room

-- the last of the reads, if there is one, gave bytes
abbrev pub GaveBytes : List Read → Type 0
GaveBytes [] = ⊤
GaveBytes (read ∷ earlier) = MatchGot read.answer (λ _. ⊤) ⊥ ⊥

-- the read found the source at its end
abbrev pub is_end : Got → Bool
is_end (got.Bytes n) = false
is_end got.End = true
is_end got.Failed = false

-- the last of the reads found the source at its end
abbrev pub found_end : List Read → Bool
found_end [] = false
found_end (read ∷ earlier) = is_end read.answer

-- the last of the reads failed
abbrev pub last_failed : List Read → Bool
last_failed [] = false
last_failed (read ∷ earlier) = read_failed read.answer

-- the bytes that the writes took
abbrev pub bytes_written : List Write → List ℕ
bytes_written [] = []
bytes_written (write ∷ earlier) = bytes_written earlier ++ bytes_put write.answer write.piece

-- the last of the writes, if there is one, took bytes
abbrev pub TookBytes : List Write → Type 0
TookBytes [] = ⊤
TookBytes (write ∷ earlier) = MatchPut write.answer (λ _. ⊤) ⊥

-- a write, after these, is handed all the bytes that are left, which are some
pub record IsOfRest (bytes : List ℕ) (earlier : List Write) (piece : List ℕ) : Type 0 where
  pub going_on : TookBytes earlier
  pub rest : bytes ≡ bytes_written earlier ++ piece
  pub some : 0 < length piece

-- each write is handed all the bytes that are left, so a sink that takes whole pieces is written once
abbrev pub AreOfRest : List ℕ → List Write → Type 0
AreOfRest bytes [] = ⊤
AreOfRest bytes (write ∷ earlier) = AreOfRest bytes earlier × IsOfRest bytes earlier write.piece

-- the bytes went out by these writes, all of them or, where a write failed, not all
pub record WritesAs {S : Type 0} (gives : S → Write → S → Type 0) (bytes : List ℕ) (before after : S) (failed : Bool) : Type 0 where
  pub writes : List Write
  pub lead : Leads gives before writes after
  pub of_rest : AreOfRest bytes writes
  pub sent : MatchBool failed (length (bytes_written writes) < length bytes) (bytes_written writes ≡ bytes)
