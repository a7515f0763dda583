-- The turns on a connection so far, for the clauses of functions that are not public.
use Rattle.std.specs.Prelude.{◌≡◌, ◌+◌, ℕ, List, length}
use Rattle.funnel_io.specs.Calls.{Read, Write, Leads, AreBelow, bytes_read}
use Rattle.session.specs.Turns.{Protocol, Turn, AreTurns, GoesBy, IsWritten, reads_of}

-- each turn so far was taken in order and its answer written whole, and so many of the bytes may still be taken
pub record HasTakenTurns {S A : Type 0} (protocol : Protocol A) (read_gives : S → Read → S → Type 0) (write_gives : S → Write → S → Type 0) (limit may : ℕ) (before now : S) : Type 0 where
  pub turns : List (Turn A)
  pub turn_by_turn : Leads (GoesBy read_gives write_gives) before turns now
  pub are : AreTurns protocol turns
  pub written : IsWritten protocol turns
  pub count : may + length (bytes_read (reads_of turns)) ≡ limit
  pub below : AreBelow limit (reads_of turns)
