-- What a reader of lines holds, and the lines that it gives of the bytes that it takes.
use Rattle.std.specs.Prelude.{◌≡◌, ◌+◌, ◌<◌, ◌≤◌, ◌⊎◌, ⊤, ℕ, Bool, true, false, ◌||◌, List, [], ◌∷◌, ◌++◌, length, All, Contains, MatchBool, if◌then◌else◌}
use Rattle.std.specs.Io.KnownBytes.{IsAtEnd}
use Rattle.funnel_io.specs.Calls.{Read, Leads, GaveBytes, IsReadBelow, bytes_read, found_end, last_failed}
use Rattle.funnel_io.specs.Lines.{HasNoNewline, lines, with_newlines}
use Rattle.funnel_io.specs.Streams.{Incoming, Takes}
use Rattle.funnel_io.specs.declared.line_reader.TheConstants.{MAX_LINE_LEN}
use Rattle.funnel_io.specs.declared.line_reader.Line.{Line}
use Rattle.funnel_io.specs.declared.line_reader.Line.TheVariants as answer

-- the bytes held of those after the last line, whether bytes of the line at hand were dropped since
-- it is too long, whether the source is at its end, and the line that was given last
pub record ReaderState : Type 0 where
  pub held : List ℕ
  pub long : Bool
  pub ended : Bool
  pub line : List ℕ

-- a reader that took and gave nothing yet
abbrev pub unused : ReaderState
unused = record { held = []; long = false; ended = false; line = [] }

-- the bytes held are the end of the rest: all of it, or what was not dropped of a line that is too long
pub record HoldsEnd (held : List ℕ) (long : Bool) (rest : List ℕ) : Type 0 where
  pub dropped : List ℕ
  pub joined : rest ≡ dropped ++ held
  pub clean : HasNoNewline dropped
  pub count : MatchBool long (MAX_LINE_LEN < length dropped) (dropped ≡ [])

-- the bytes begin with these lines, which newlines ended, and then comes the rest
pub record IsCutAtNewline (bytes : List ℕ) (given : List (List ℕ)) (rest : List ℕ) : Type 0 where
  pub joined : bytes ≡ with_newlines given ++ rest
  pub clean : All HasNoNewline given

-- these are all lines of the bytes, and the source's end ended the last
pub record IsCutAtEnd (bytes : List ℕ) (given : List (List ℕ)) (rest : List ℕ) (ended : Bool) : Type 0 where
  pub all : lines bytes true ≡ given
  pub nothing_after : rest ≡ []
  pub at_end : ended ≡ true

-- of the bytes that the reader took it gave these lines, and it holds what comes after them
pub record HasGiven (reader : ReaderState) (taken : List ℕ) (given : List (List ℕ)) : Type 0 where
  pub rest : List ℕ
  pub holds : HoldsEnd reader.held reader.long rest
  pub cut : IsCutAtNewline taken given rest ⊎ IsCutAtEnd taken given rest reader.ended

-- the next line was given, and this is it
abbrev pub GivesLine : ReaderState → List ℕ → List (List ℕ) → List ℕ → Type 0
GivesLine reader taken given line = HasGiven reader taken (given ++ line ∷ [])

-- what each answer says of all bytes that were taken and of the lines that were given before
abbrev pub Gives : Line → List ℕ → List (List ℕ) → ReaderState → Type 0
Gives answer.Whole taken given now = GivesLine now taken given now.line
Gives answer.Long taken given now = (line : List ℕ) × (MAX_LINE_LEN < length line) × GivesLine now taken given line
Gives answer.Finished taken given now = (lines taken true ≡ given) × (now.ended ≡ true) × HasGiven now taken given × (now.held ≡ [])
Gives answer.Failed taken given now = (lines taken false ≡ given) × HasGiven now taken given
Gives answer.Limit taken given now = (lines taken false ≡ given) × HasGiven now taken given

-- the bytes held decide no answer: no newline is among them, and the source may go on
pub record IsUndecided (reader : ReaderState) : Type 0 where
  pub clean : HasNoNewline reader.held
  pub not_ended : reader.ended ≡ false

-- a read, after these, has to be made: the bytes held then decide no answer, and some may be taken, for which it has room enough
pub record IsNeeded (reader : ReaderState) (may : ℕ) (earlier : List Read) (room : ℕ) : Type 0 where
  pub not_ended : reader.ended ≡ false
  pub going_on : GaveBytes earlier
  pub undecided : HasNoNewline (reader.held ++ bytes_read earlier)
  pub below : IsReadBelow may earlier room

-- each of the reads, of which the last comes first, has to be made
abbrev pub AreNeeded : ReaderState → ℕ → List Read → Type 0
AreNeeded reader may [] = ⊤
AreNeeded reader may (read ∷ earlier) = AreNeeded reader may earlier × IsNeeded reader may earlier read.room

-- the read of the call failed
abbrev pub line_failed : Line → Bool
line_failed answer.Failed = true
line_failed _ = false

-- the source was read as often as the line has to be read for, and the answer is that of all bytes taken then; it tells
-- whether the last read failed
pub record NextLine {S : Type 0} (incoming : S → Incoming) (step : S → Read → S → Type 0) (old new : ReaderState) (answer : Line) (before after : S) (may may' : ℕ) : Type 0 where
  pub reads : List Read
  pub lead : Leads step before reads after
  pub needed : AreNeeded old may reads
  pub ended : new.ended ≡ (old.ended || found_end reads)
  pub failed : last_failed reads ≡ line_failed answer
  pub takes : Takes (bytes_read reads) (incoming before) (incoming after)
  pub count : may' + length (bytes_read reads) ≡ may
  pub gives : (taken : List ℕ) (given : List (List ℕ)) → HasGiven old taken given → Gives answer (taken ++ bytes_read reads) given new

-- the bytes held decide the answer, or no byte may be read
abbrev pub IsDecided : ReaderState → ℕ → Type 0
IsDecided reader may = Contains reader.held 10 ⊎ (reader.ended ≡ true) ⊎ (may ≡ 0)

-- where the reader is at the end, nothing is left in the source, and it was found by a read that was allowed
abbrev pub KnowsEnd : ReaderState → Incoming → ℕ → Type 0
KnowsEnd reader incoming may = reader.ended ≡ true → IsAtEnd incoming.left × (0 < may)

-- the answer keeps to the limits: a line that is whole is not too long, no byte may be taken any more at the limit, and some may where a
-- read failed
pub record KeepsToLimits (given : Line) (now : ReaderState) (may : ℕ) : Type 0 where
  pub short : given ≡ answer.Whole → length now.line ≤ MAX_LINE_LEN
  pub at_limit : given ≡ answer.Limit → may ≡ 0
  pub below_limit : given ≡ answer.Failed → 0 < may

-- an answer that says that a line ended
abbrev pub IsLine : Line → Type 0
IsLine answer.Whole = ⊤
IsLine answer.Long = ⊤
IsLine _ = ⊥

-- the most lines that can come of the bytes held: each has a byte among them, but for one whose
-- bytes were dropped
abbrev pub most_lines : List ℕ → Bool → ℕ
most_lines held long = length held + (if long then 1 else 0)
