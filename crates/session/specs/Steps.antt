-- How far a session has come, for the clauses of functions that are not public.
use Rattle.std.specs.Prelude.{◌≡◌, ◌+◌, ◌<◌, ◌⊎◌, ⊤, ℕ, Bool, true, false, ◌||◌, List, [], ◌∷◌, ◌++◌, length, MatchBool}
use Rattle.funnel_io.specs.Calls.{Read, Write, Leads, bytes_read, found_end, last_failed}
use Rattle.funnel_io.specs.Counts.{counted}
use Rattle.funnel_io.specs.LineReading.{ReaderState, AreNeeded, HasGiven, GivesLine, KnowsEnd}
use Rattle.funnel_io.specs.Streams.{Incoming, Takes, Writes}
use Rattle.funnel_io.specs.Lines.{lines}
use Rattle.funnel_io.specs.declared.end.End.{End}
use Rattle.funnel_io.specs.declared.end.End.TheVariants as end_of
use Rattle.funnel_model.specs.declared.event.Event.{Event}
use Rattle.funnel_model.specs.declared.reply.Reply.{Reply}
use Rattle.funnel_model.specs.declared.reply.Reply.TheVariants as reply_of
use Rattle.line_proto.specs.Forms.{item_of, items_of}
use Rattle.line_proto.specs.Services.{Caller}
use Rattle.line_proto.specs.Texts.{is_list, text_of, texts}
use Rattle.session.specs.Sessions.{Answers, AnswersItem}
use Rattle.session.specs.Ends.{Stand, is_read_fault}
use Rattle.session.specs.Turns.{answers_of, line_by_line, reads_of}
use Rattle.session.specs.TurnSteps.{HasTakenTurns}

-- the text is the reply's, or that of a want of memory, for a list whose text has more bytes than there was room for
abbrev pub IsRendered : Reply → ℕ → List ℕ → Type 0
IsRendered reply room text =
    (text ≡ text_of reply) ⊎ ((is_list reply ≡ true) × (room < length (text_of reply)) × (text ≡ text_of reply_of.Memory))

-- the lines that were given were answered and their replies written, and no call failed
pub record HasServedLines (caller : Caller) (limit may : ℕ) (reader : ReaderState) (old now : Stand) : Type 0 where
  pub taken : List ℕ
  pub takes : Takes taken old.incoming now.incoming
  pub count : may + length taken ≡ limit
  pub given : List (List ℕ)
  pub has_given : HasGiven reader taken given
  pub knows_end : KnowsEnd reader now.incoming may
  pub replies : List Reply
  pub answers : Answers caller old.front (items_of given) replies now.front
  pub writes : Writes (texts replies) old.outgoing now.outgoing
  pub reads_stay : now.incoming.faults ≡ old.incoming.faults
  pub writes_stay : now.outgoing.faults ≡ old.outgoing.faults

-- some bytes were taken, of the number that may be, and a next line was given and is answered by this reply
pub record AnswersNext (caller : Caller) (old_reader reader : ReaderState) (before after : Incoming) (may may' : ℕ) (front front' : List Event) (reply : Reply) : Type 0 where
  pub bytes : List ℕ
  pub takes : Takes bytes before after
  pub count : may' + length bytes ≡ may
  pub faults : after.faults ≡ before.faults
  pub knows_end : KnowsEnd old_reader before may → KnowsEnd reader after may'
  pub next : (taken : List ℕ) (so_far : List (List ℕ)) → HasGiven old_reader taken so_far →
      (line : List ℕ) × GivesLine reader (taken ++ bytes) so_far line × AnswersItem caller front (item_of line) reply front'

-- what each end that comes before a line says of all bytes taken, of the lines given before, and of those that may still be taken
abbrev pub EndsAfter : End → List ℕ → List (List ℕ) → ReaderState → ℕ → ℕ → Type 0
EndsAfter end_of.Done taken given reader may limit = (lines taken true ≡ given) × (reader.ended ≡ true)
EndsAfter end_of.ReadFault taken given reader may limit = (lines taken false ≡ given) × (0 < may)
EndsAfter (end_of.ByteLimit told) taken given reader may limit = (lines taken false ≡ given) × (may ≡ 0) × (told ≡ limit)
EndsAfter end_of.WriteFault taken given reader may limit = ⊥
EndsAfter end_of.Memory taken given reader may limit = ⊥

-- some bytes were taken, and no line came of them
pub record EndsNext (limit : ℕ) (old_reader reader : ReaderState) (before after : Incoming) (may may' : ℕ) (front front' : List Event) (end : End) : Type 0 where
  pub bytes : List ℕ
  pub takes : Takes bytes before after
  pub count : may' + length bytes ≡ may
  pub faults : after.faults ≡ counted (is_read_fault end) before.faults
  pub same : front' ≡ front
  pub knows_end : KnowsEnd old_reader before may → KnowsEnd reader after may'
  pub ends : (taken : List ℕ) (given : List (List ℕ)) → HasGiven old_reader taken given → EndsAfter end (taken ++ bytes) given reader may' limit

-- every line that was given had its turn, every reply was written whole, and no call failed
pub record HasGone {S : Type 0} (read_gives : S → Read → S → Type 0) (write_gives : S → Write → S → Type 0) (limit may : ℕ) (before now : S) (reader : ReaderState) : Type 0 where
  pub so_far : HasTakenTurns line_by_line read_gives write_gives limit may before now
  pub given : List (List ℕ)
  pub has_given : HasGiven reader (bytes_read (reads_of so_far.turns)) given
  pub answered : length given ≡ length (answers_of so_far.turns)
  pub ended : found_end (reads_of so_far.turns) ≡ reader.ended
  pub none_failed : last_failed (reads_of so_far.turns) ≡ false

-- the reads of which a next line came, or none
pub record ReadsOn {S : Type 0} (read_gives : S → Read → S → Type 0) (before after : S) (old new : ReaderState) (may may' : ℕ) (more : Bool) : Type 0 where
  pub reads : List Read
  pub lead : Leads read_gives before reads after
  pub needed : AreNeeded old may reads
  pub count : may' + length (bytes_read reads) ≡ may
  pub ended : new.ended ≡ (old.ended || found_end reads)
  pub failed : more ≡ true → last_failed reads ≡ false
  pub next : (taken : List ℕ) (given : List (List ℕ)) → HasGiven old taken given →
      MatchBool more ((line : List ℕ) × HasGiven new (taken ++ bytes_read reads) (given ++ line ∷ [])) ⊤
