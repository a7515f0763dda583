-- The calls on a connection of requests so far, for the clauses of functions that are not public.
use Rattle.std.specs.Prelude.{◌≡◌, ◌+◌, ⊤, ℕ, true, false, List, [], ◌∷◌, ◌++◌, length}
use Rattle.std.specs.List.{list_any}
use Rattle.funnel_io.specs.Calls.{Read, Write, Leads, GaveBytes, IsReadBelow, bytes_read, found_end}
use Rattle.funnel_io.specs.Streams.{Incoming}
use Rattle.funnel_io.specs.declared.end.End.{End}
use Rattle.funnel_io.specs.declared.end.End.TheVariants as end_of
use Rattle.session.specs.Turns.{answers_of, reads_of}
use Rattle.session.specs.TurnSteps.{HasTakenTurns}
use Rattle.http_front.specs.Entries.{BeginsWith, is_last}
use Rattle.http_front.specs.Sessions.{entries_of}
use Rattle.http_front.specs.Steps.{HasRead, StopsUndecided}
use Rattle.http_front.specs.Turns.{request_by_request}

-- a read comes where the bytes held and those read so far decide nothing, the read before it gave bytes, and some may still be read, for
-- which it has room enough
pub record IsNeeded (Undecided : List ℕ → Type 0) (held : List ℕ) (may : ℕ) (earlier : List Read) (room : ℕ) : Type 0 where
  pub going_on : GaveBytes earlier
  pub undecided : Undecided (held ++ bytes_read earlier)
  pub below : IsReadBelow may earlier room

-- each of the reads, of which the last comes first, has to be made
abbrev pub AreNeeded : (List ℕ → Type 0) → List ℕ → ℕ → List Read → Type 0
AreNeeded Undecided held may [] = ⊤
AreNeeded Undecided held may (read ∷ earlier) = AreNeeded Undecided held may earlier × IsNeeded Undecided held may earlier read.room

-- these reads were made, each of which had to be, and this is so of the last of them
pub record ReadsAsNeeded {S : Type 0} (Undecided : List ℕ → Type 0) (Last : List Read → Type 0) (read_gives : S → Read → S → Type 0) (before after : S) (old new : List ℕ) (may may' : ℕ) : Type 0 where
  pub reads : List Read
  pub lead : Leads read_gives before reads after
  pub needed : AreNeeded Undecided old may reads
  pub last : Last reads
  pub grown : new ≡ old ++ bytes_read reads
  pub count : may' + length (bytes_read reads) ≡ may

-- with Done the last of the reads found the end
abbrev pub FindsEndAs : End → List Read → Type 0
FindsEndAs end reads = end ≡ end_of.Done → found_end reads ≡ true

-- bytes were read, by reads that had to be made, of which each gave bytes and none failed
pub record ReadsOn {S : Type 0} (Undecided : List ℕ → Type 0) (incoming : S → Incoming) (read_gives : S → Read → S → Type 0) (before after : S)
    (old new : List ℕ) (may may' : ℕ) : Type 0 where
  pub read : HasRead (incoming before) (incoming after) old new may may'
  pub calls : ReadsAsNeeded Undecided GaveBytes read_gives before after old new may may'
  pub faults : (incoming after).faults ≡ (incoming before).faults

-- bytes were read, by reads that had to be made, and the connection ends before those that are held decide what begins them
pub record EndsUndecided {S : Type 0} (Undecided : List ℕ → Type 0) (limit : ℕ) (end : End) (incoming : S → Incoming) (read_gives : S → Read → S → Type 0)
    (before after : S) (old new : List ℕ) (may may' : ℕ) : Type 0 where
  pub stops : StopsUndecided Undecided limit end (incoming before) (incoming after) old new may may'
  pub calls : ReadsAsNeeded Undecided (FindsEndAs end) read_gives before after old new may may'

-- every request before the bytes that are held had its turn, every response was written whole, none closes, and no call failed
pub record HasHadTurns {S : Type 0} (read_gives : S → Read → S → Type 0) (write_gives : S → Write → S → Type 0) (limit may : ℕ) (held : List ℕ) (before now : S) : Type 0 where
  pub so_far : HasTakenTurns request_by_request read_gives write_gives limit may before now
  pub begin : BeginsWith (bytes_read (reads_of so_far.turns)) (entries_of (answers_of so_far.turns)) held
  pub none_closes : list_any is_last (entries_of (answers_of so_far.turns)) ≡ false
  pub gave : GaveBytes (reads_of so_far.turns)
