-- What the steps of reading lines give, for the clauses of functions that are not public.
use Rattle.std.specs.Prelude.{◌≡◌, ◌+◌, ⊤, ℕ, Bool, ◌||◌, List, ◌++◌, length}
use Rattle.funnel_io.specs.Calls.{Read, IsRoomFor, is_end}
use Rattle.funnel_io.specs.LineReading.{ReaderState, HoldsEnd, HasGiven}
use Rattle.funnel_io.specs.Lines.{HasNoNewline}
use Rattle.funnel_io.specs.Streams.{Incoming, Takes}
use Rattle.funnel_io.specs.declared.source.Got.{Got}
use Rattle.funnel_io.specs.declared.line_reader.Line.{Line}
use Rattle.funnel_io.specs.declared.line_reader.Line.TheVariants as answer

-- whatever the bytes held were the end of, they still are
abbrev pub KeepsEnd : List ℕ → Bool → List ℕ → Bool → Type 0
KeepsEnd held long held' long' = (rest : List ℕ) → HoldsEnd held long rest → HoldsEnd held' long' rest

-- an answer that the bytes at hand decide, without a further read
abbrev pub IsOfBytes : Line → Type 0
IsOfBytes answer.Failed = ⊥
IsOfBytes answer.Limit = ⊥
IsOfBytes _ = ⊤

-- one read was made, and no further line was given; where no newline is held then, none is among its bytes
pub record ReadsNext {S : Type 0} (incoming : S → Incoming) (gives : S → Read → S → Type 0) (before after : S) (old new : ReaderState) (answer : Got) (may may' : ℕ) : Type 0 where
  pub read : Read
  pub answered : read.answer ≡ answer
  pub step : gives before read after
  pub room : IsRoomFor read.room may
  pub takes : Takes read.bytes (incoming before) (incoming after)
  pub count : may' + length read.bytes ≡ may
  pub clean : HasNoNewline new.held → HasNoNewline read.bytes
  pub ended : new.ended ≡ (old.ended || is_end answer)
  pub keeps : (taken : List ℕ) (given : List (List ℕ)) → HasGiven old taken given → HasGiven new (taken ++ read.bytes) given
