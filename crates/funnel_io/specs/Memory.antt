-- Sources and sinks in memory, as contracts see them.
use Rattle.std.specs.Prelude.{◌≡◌, ◌↔◌, ℕ, ◌+◌, ◌<◌, ◌⊎◌, ⊤, List, [], ◌∷◌, Some, drop, length, min, Contains}
use Rattle.std.specs.List.{concat}
use Rattle.funnel_io.specs.declared.source.Got.{Got}
use Rattle.funnel_io.specs.declared.source.Got.TheVariants as got
use Rattle.funnel_io.specs.declared.sink.Put.{Put}
use Rattle.funnel_io.specs.declared.sink.Put.TheVariants as put
use Rattle.funnel_io.specs.Answers.{MatchGot, MatchPut, bytes_put, read_failed, write_failed}
use Rattle.funnel_io.specs.Calls.{Read, Write}
use Rattle.funnel_io.specs.Counts.{raised, counted}
use Rattle.funnel_io.specs.Streams.{Incoming, Outgoing, Takes, Writes}

-- a source: the pieces left, the bytes taken, the number of reads made, the numbers of the reads
-- that fail, and the count of those that failed
pub record SourceState : Type 0 where
  pub pieces : List (List ℕ)
  pub taken : List ℕ
  pub reads : ℕ
  pub fails : List ℕ
  pub faults : ℕ

-- a sink: the bytes written, the room left, the number of writes made, the numbers of the writes
-- that fail, and the count of those that failed
pub record SinkState : Type 0 where
  pub written : List ℕ
  pub room : ℕ
  pub writes : ℕ
  pub fails : List ℕ
  pub faults : ℕ

-- what is read from the source: the bytes left are the pieces joined
abbrev pub incoming_of : SourceState → Incoming
incoming_of source = record { left = Some (concat source.pieces); taken = Some source.taken; faults = source.faults }

-- what is written to the sink
abbrev pub outgoing_of : SinkState → Outgoing
outgoing_of sink = record { written = Some sink.written; faults = sink.faults }

-- the pieces without the empty ones at their front
abbrev pub unread : List (List ℕ) → List (List ℕ)
unread [] = []
unread ([] ∷ pieces) = unread pieces
unread ((byte ∷ bytes) ∷ pieces) = (byte ∷ bytes) ∷ pieces

-- the first piece, or no bytes where there is none
abbrev pub first_piece : List (List ℕ) → List ℕ
first_piece [] = []
first_piece (piece ∷ pieces) = piece

-- the pieces without so many bytes of the first
abbrev pub drop_front : ℕ → List (List ℕ) → List (List ℕ)
drop_front n [] = []
drop_front n (piece ∷ pieces) = drop n piece ∷ pieces

-- a read into so much room is the next by number, fails by its number alone, and otherwise gives
-- as many bytes of the next piece as fit
pub record IsRead (old : SourceState) (room : ℕ) (answer : Got) (new : SourceState) : Type 0 where
  pub reads : new.reads ≡ raised old.reads
  pub fails : new.fails ≡ old.fails
  pub by_number : (answer ≡ got.Failed) ↔ Contains old.fails new.reads
  pub faults : new.faults ≡ counted (read_failed answer) old.faults
  pub one_piece : MatchGot answer
      (λ n. n ≡ min room (length (first_piece (unread old.pieces)))) (unread old.pieces ≡ []) ⊤
  pub pieces : MatchGot answer
      (λ n. new.pieces ≡ drop_front n (unread old.pieces)) (new.pieces ≡ []) (new.pieces ≡ old.pieces)

-- a write is the next by number, fails by its number or for want of room, and otherwise takes the
-- whole piece and its length from the room
pub record IsWrite (old : SinkState) (piece : List ℕ) (answer : Put) (new : SinkState) : Type 0 where
  pub writes : new.writes ≡ raised old.writes
  pub fails : new.fails ≡ old.fails
  pub where_it_must : (answer ≡ put.Failed) ↔ (Contains old.fails new.writes ⊎ (old.room < length piece))
  pub faults : new.faults ≡ counted (write_failed answer) old.faults
  pub whole : MatchPut answer (λ n. n ≡ length piece) ⊤
  pub room : MatchPut answer (λ n. old.room ≡ new.room + n) (new.room ≡ old.room)

-- what a source tells of a read: which it is, and its bytes
pub record IsSourceRead (old : SourceState) (read : Read) (new : SourceState) : Type 0 where
  pub exact : IsRead old read.room read.answer new
  pub takes : Takes read.bytes (incoming_of old) (incoming_of new)

-- what a sink tells of a write: which it is, and its bytes
pub record IsSinkWrite (old : SinkState) (write : Write) (new : SinkState) : Type 0 where
  pub exact : IsWrite old write.piece write.answer new
  pub writes : Writes (bytes_put write.answer write.piece) (outgoing_of old) (outgoing_of new)
