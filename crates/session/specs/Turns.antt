-- The calls on a connection, turn by turn: a turn reads until an answer is due, and writes it. What is answered, line by line or request by
-- request, is the protocol's affair.
use Rattle.std.specs.Prelude.{◌≡◌, ◌≤◌, ◌⊎◌, ⊤, ℕ, Bool, true, false, List, [], ◌∷◌, ◌++◌, length}
use Rattle.funnel_io.specs.Calls.{Read, Write, Leads, AreBelow, AreOfRest, GaveBytes, bytes_read, bytes_written, found_end}
use Rattle.funnel_io.specs.Lines.{lines}
use Rattle.funnel_model.specs.declared.reply.Reply.{Reply}
use Rattle.line_proto.specs.Texts.{text_of}

-- a protocol tells the text of each answer; whether these answers are due, in order, for the first of what was read; whether they are all that
-- are due for the bytes read, where more may follow; and whether one of them closes the connection
pub record Protocol (A : Type 0) : Type 1 where
  pub text_of : A → List ℕ
  pub AreDue : List Read → List A → Type 0
  pub AreAllDue : List ℕ → List A → Type 0
  pub close : List A → Bool

-- line by line, a reply is due for each line that was read, be it ended by a newline or by the end of the input; no reply closes the connection
abbrev pub line_by_line : Protocol Reply
line_by_line = record {
  text_of = text_of;
  AreDue = λ reads replies. length replies ≤ length (lines (bytes_read reads) (found_end reads));
  AreAllDue = λ bytes replies. length (lines bytes false) ≡ length replies;
  close = λ replies. false;
}

-- what is done for a line or a request: the reads that it takes, its answer, and the writes of the answer's text; the last call comes first
pub record Turn (A : Type 0) : Type 0 where
  pub reads : List Read
  pub answer : A
  pub writes : List Write

-- a turn leads from one state of the connection to another: first its reads, and then its writes
pub record GoesBy {S A : Type 0} (read_gives : S → Read → S → Type 0) (write_gives : S → Write → S → Type 0) (before : S) (turn : Turn A) (after : S) : Type 0 where
  pub middle : S
  pub reads : Leads read_gives before turn.reads middle
  pub writes : Leads write_gives middle turn.writes after

-- the reads of the turns, of which the last comes first; of the reads too
abbrev pub reads_of : {A : Type 0} → List (Turn A) → List Read
reads_of [] = []
reads_of (turn ∷ earlier) = turn.reads ++ reads_of earlier

-- the answers of the turns, in order
abbrev pub answers_of : {A : Type 0} → List (Turn A) → List A
answers_of [] = []
answers_of (turn ∷ earlier) = answers_of earlier ++ turn.answer ∷ []

-- and the bytes that their writes took
abbrev pub bytes_of : {A : Type 0} → List (Turn A) → List ℕ
bytes_of [] = []
bytes_of (turn ∷ earlier) = bytes_of earlier ++ bytes_written turn.writes

-- the answer of the last turn, if there is one, was written whole
abbrev pub IsWritten : {A : Type 0} → Protocol A → List (Turn A) → Type 0
IsWritten protocol [] = ⊤
IsWritten protocol (turn ∷ earlier) = bytes_written turn.writes ≡ protocol.text_of turn.answer

-- a read comes after these turns and reads: the one before it gave bytes, every answer that is due had its turn, and none of them closes
pub record IsReadInTurn {A : Type 0} (protocol : Protocol A) (turns : List (Turn A)) (earlier : List Read) : Type 0 where
  pub going_on : GaveBytes (earlier ++ reads_of turns)
  pub answered : protocol.AreAllDue (bytes_read (earlier ++ reads_of turns)) (answers_of turns)
  pub none_closes : protocol.close (answers_of turns) ≡ false

-- each of the reads comes so, and hence none after one that gave no bytes
abbrev pub AreReadInTurn : {A : Type 0} → Protocol A → List (Turn A) → List Read → Type 0
AreReadInTurn protocol turns [] = ⊤
AreReadInTurn protocol turns (read ∷ earlier) = AreReadInTurn protocol turns earlier × IsReadInTurn protocol turns earlier

-- a turn comes after these: the last answer was written whole, the turn's answer is due next, and it is written at one go
pub record Follows {A : Type 0} (protocol : Protocol A) (earlier : List (Turn A)) (turn : Turn A) : Type 0 where
  pub written : IsWritten protocol earlier
  pub reads : AreReadInTurn protocol earlier turn.reads
  pub due : protocol.AreDue (turn.reads ++ reads_of earlier) (answers_of earlier ++ turn.answer ∷ [])
  pub one_text : AreOfRest (protocol.text_of turn.answer) turn.writes

-- each turn follows those before it
abbrev pub AreTurns : {A : Type 0} → Protocol A → List (Turn A) → Type 0
AreTurns protocol [] = ⊤
AreTurns protocol (turn ∷ earlier) = AreTurns protocol earlier × Follows protocol earlier turn

-- the reads for which no answer was due; they come only where the last answer was written whole
abbrev pub AreLast : {A : Type 0} → Protocol A → List (Turn A) → List Read → Type 0
AreLast protocol turns [] = ⊤
AreLast protocol turns (read ∷ earlier) = AreReadInTurn protocol turns (read ∷ earlier) × IsWritten protocol turns

-- all calls on the connection are its turns, and then reads for which no answer was due
pub record GoesInTurns {S A : Type 0} (protocol : Protocol A) (read_gives : S → Read → S → Type 0) (write_gives : S → Write → S → Type 0) (before after : S) : Type 0 where
  pub turns : List (Turn A)
  pub middle : S
  pub turn_by_turn : Leads (GoesBy read_gives write_gives) before turns middle
  pub are : AreTurns protocol turns
  pub last : List Read
  pub last_lead : Leads read_gives middle last after
  pub last_are : AreLast protocol turns last

-- the calls go in turns, no read comes once the limit was taken, each has room enough, and where all is done the last read found the end or
-- an answer closes
pub record StopsReading {S A : Type 0} (protocol : Protocol A) (read_gives : S → Read → S → Type 0) (write_gives : S → Write → S → Type 0) (limit : ℕ) (done : Type 0) (before after : S) : Type 0 where
  pub goes : GoesInTurns protocol read_gives write_gives before after
  pub below : AreBelow limit (goes.last ++ reads_of goes.turns)
  pub at_end : done → (found_end (goes.last ++ reads_of goes.turns) ≡ true) ⊎ (protocol.close (answers_of goes.turns) ≡ true)
