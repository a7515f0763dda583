-- A session's calls on its connection, line by line.
use Rattle.std.proofs.Common.{◌≡◌, ◌≤◌, ℕ, Bool, true, false, ◌||◌, List, [], ◌∷◌, ◌++◌, length, refl, sym, ap, ◌∙◌, subst, inl, inr, arith, length-append}
use Rattle.std.proofs.lemmas.Bool.{true≢false}
use Rattle.std.proofs.Math.Bool.{or-false}
use Rattle.funnel_io.specs.declared.source.Got.{Got}
use Rattle.funnel_io.specs.declared.source.Got.TheVariants as got
use Rattle.funnel_io.proofs.CallLaws.{below_after, bytes_read-append, gave_bytes, gave_bytes-append, last_failed-append}
use Rattle.funnel_io.proofs.LineLaws.{given_first, given_first_or_end, still_given}
use Rattle.funnel_io.specs.Calls.{Read, Write, WritesAs, AreBelow, bytes_read, found_end, is_end}
use Rattle.funnel_io.specs.LineReading.{ReaderState, AreNeeded, HasGiven, unused}
use Rattle.funnel_io.specs.Lines.{lines}
use Rattle.funnel_io.specs.Streams.{Incoming}
use Rattle.funnel_io.specs.declared.end.End.{End}
use Rattle.funnel_io.specs.declared.end.End.TheVariants as end_of
use Rattle.funnel_model.specs.declared.event.Event.{Event}
use Rattle.funnel_model.specs.declared.reply.Reply.{Reply}
use Rattle.funnel_model.specs.declared.reply.Reply.TheVariants as reply_of
use Rattle.line_proto.specs.Texts.{text_of}
use Rattle.session.proofs.Turns.{stops_last, stops_written, taken_more, taken_none}
use Rattle.session.specs.Laws.{FindsEnd}
use Rattle.session.specs.Steps.{EndsNext, HasGone, IsRendered, ReadsOn}
use Rattle.session.specs.Turns.{AreReadInTurn, AreTurns, StopsReading, Turn, answers_of, line_by_line, reads_of}

-- a text that was rendered is a reply's
reply_to : (reply : Reply) (room : ℕ) (text : List ℕ) → IsRendered reply room text → (other : Reply) × (text ≡ text_of other)
reply_to reply room text (inl is) = (reply, is)
reply_to reply room text (inr wanting) = (reply_of.Memory, wanting.2)

-- the last read of all, some of which had to be made, found the end where the reader is at it now
found_on : (reader reader' : ReaderState) (may : ℕ) (reads earlier : List Read) → AreNeeded reader may reads
    → reader'.ended ≡ (reader.ended || found_end reads) → found_end earlier ≡ reader.ended → found_end (reads ++ earlier) ≡ reader'.ended
found_on reader reader' may [] earlier needed ended before = before ∙ (sym (or-false reader.ended) ∙ sym ended)
found_on reader reader' may (read ∷ reads) earlier needed ended before = sym (ended ∙ ap (λ b. b || is_end read.answer) needed.1.not_ended)

-- the lines that were given are no more than those that were read
given_are_read : (reader : ReaderState) (taken : List ℕ) (given : List (List ℕ)) (ended : Bool) → reader.ended ≡ ended → HasGiven reader taken given
    → length given ≤ length (lines taken ended)
given_are_read reader taken given true is has_given =
    let first = given_first reader taken given has_given in omega (arith, ap length first.1, length-append given first.0)
given_are_read reader taken given false is has_given =
    elim (given_first_or_end reader taken given has_given) [
      | inl first ↦ omega (arith, ap length first.1, length-append given first.0)
      | inr at_end ↦ absurd (true≢false (sym at_end ∙ is))
    ]

module _ {S : Type 0} (read_gives : S → Read → S → Type 0) (write_gives : S → Write → S → Type 0) where
  -- nothing was done yet
  pub gone_none : (limit : ℕ) (now : S) → HasGiven unused [] [] → HasGone read_gives write_gives limit limit now now unused
  gone_none limit now none = record {
    so_far = taken_none line_by_line read_gives write_gives limit now;
    given = [];
    has_given = none;
    answered = refl;
    ended = refl;
    none_failed = refl;
  }

  module _ (limit may may' : ℕ) (before now : S) (reader reader' : ReaderState) (p : HasGone read_gives write_gives limit may before now reader) (middle : S) where
    -- reads that have to be made come where every line that ended had its turn, and every read gave bytes
    in_turn : (reads : List Read) → AreNeeded reader may reads → AreReadInTurn line_by_line p.so_far.turns reads
    in_turn [] needed = tt
    in_turn (read ∷ earlier) needed =
        let need = needed.1 in (
          in_turn earlier needed.0,
          record {
            going_on = gave_bytes-append earlier (reads_of p.so_far.turns) need.going_on (gave_bytes (reads_of p.so_far.turns) (p.ended ∙ need.not_ended) p.none_failed);
            answered = ap (λ bs. length (lines bs false)) (bytes_read-append earlier (reads_of p.so_far.turns))
                ∙ (ap length (still_given reader (bytes_read earlier) need.undecided need.not_ended (bytes_read (reads_of p.so_far.turns)) p.given p.has_given) ∙ p.answered);
            none_closes = refl;
          },
        )

    -- and below the limit
    below_on : (reads : List Read) → AreNeeded reader may reads → AreBelow limit (reads ++ reads_of p.so_far.turns)
    below_on [] needed = p.so_far.below
    below_on (read ∷ earlier) needed =
        (below_on earlier needed.0, below_after limit may read.room earlier (reads_of p.so_far.turns) p.so_far.count needed.1.below)

    -- no further line came
    module _ (r : ReadsOn read_gives now middle reader reader' may may' false) where
      -- where the session is done, the reader is at the end
      done_at_end : (old new : Incoming) (front front' : List Event) (end : End) → EndsNext limit reader reader' old new may may' front front' end
          → end ≡ end_of.Done → reader'.ended ≡ true
      done_at_end old new front front' end_of.Done e done = (e.ends (bytes_read (reads_of p.so_far.turns)) p.given p.has_given).1
      done_at_end old new front front' end_of.ReadFault e done = cc
      done_at_end old new front front' (end_of.ByteLimit told) e done = cc
      done_at_end old new front front' end_of.WriteFault e done = cc
      done_at_end old new front front' end_of.Memory e done = cc

      pub stops_done : (old new : Incoming) (front front' : List Event) (end : End) → EndsNext limit reader reader' old new may may' front front' end
          → StopsReading line_by_line read_gives write_gives limit (end ≡ end_of.Done) before middle
      stops_done old new front front' end e =
          stops_last line_by_line read_gives write_gives limit may may' before now middle p.so_far r.reads r.lead (in_turn r.reads r.needed) (below_on r.reads r.needed)
          (end ≡ end_of.Done)
          (λ done. inl (found_on reader reader' may r.reads (reads_of p.so_far.turns) r.needed r.ended p.ended ∙ done_at_end old new front front' end e done))

    -- a line came
    module _ (r : ReadsOn read_gives now middle reader reader' may may' true) (reply : Reply) (room : ℕ) (text : List ℕ) (rendered : IsRendered reply room text) (after : S) where
      is_reply : (other : Reply) × (text ≡ text_of other)
      is_reply = reply_to reply room text rendered

      all_bytes : bytes_read (r.reads ++ reads_of p.so_far.turns) ≡ bytes_read (reads_of p.so_far.turns) ++ bytes_read r.reads
      all_bytes = bytes_read-append r.reads (reads_of p.so_far.turns)

      next : (line : List ℕ) × HasGiven reader' (bytes_read (r.reads ++ reads_of p.so_far.turns)) (p.given ++ line ∷ [])
      next =
          let given = r.next (bytes_read (reads_of p.so_far.turns)) p.given p.has_given in
          (given.0, subst (λ (bs : List ℕ). HasGiven reader' bs (p.given ++ given.0 ∷ [])) (sym all_bytes) given.1)

      ended_now : found_end (r.reads ++ reads_of p.so_far.turns) ≡ reader'.ended
      ended_now = found_on reader reader' may r.reads (reads_of p.so_far.turns) r.needed r.ended p.ended

      -- so a reply is due
      due : length (answers_of p.so_far.turns ++ is_reply.0 ∷ []) ≤ length (lines (bytes_read (r.reads ++ reads_of p.so_far.turns)) (found_end (r.reads ++ reads_of p.so_far.turns)))
      due = omega (
        arith,
        p.answered,
        length-append (answers_of p.so_far.turns) (is_reply.0 ∷ []),
        length-append p.given (next.0 ∷ []),
        given_are_read reader' (bytes_read (r.reads ++ reads_of p.so_far.turns)) (p.given ++ next.0 ∷ []) (found_end (r.reads ++ reads_of p.so_far.turns)) (sym ended_now) next.1,
      )

      -- it had its turn
      pub gone_on : WritesAs write_gives text middle after false → HasGone read_gives write_gives limit may' before after reader'
      gone_on w = record {
        so_far = taken_more line_by_line read_gives write_gives limit may may' before now middle p.so_far r.reads r.lead (in_turn r.reads r.needed) (below_on r.reads r.needed)
            is_reply.0 due text is_reply.1 after r.count w;
        given = p.given ++ next.0 ∷ [];
        has_given = next.1;
        answered = omega (arith, p.answered, length-append p.given (next.0 ∷ []), length-append (answers_of p.so_far.turns) (is_reply.0 ∷ []));
        ended = ended_now;
        none_failed = last_failed-append r.reads (reads_of p.so_far.turns) (r.failed refl) p.none_failed;
      }

      -- it had its turn, and a write failed
      pub stops_failed : WritesAs write_gives text middle after true → StopsReading line_by_line read_gives write_gives limit (end_of.WriteFault ≡ end_of.Done) before after
      stops_failed w =
          stops_written line_by_line read_gives write_gives limit may may' before now middle p.so_far r.reads r.lead (in_turn r.reads r.needed) (below_on r.reads r.needed)
          is_reply.0 due text is_reply.1 after true (end_of.WriteFault ≡ end_of.Done) (λ done. cc) w

-- reads of which the last one found the end
finds_end : (reads : List Read) → found_end reads ≡ true → FindsEnd reads
finds_end [] found = cc
finds_end (read ∷ earlier) found = record { last = read; earlier = earlier; reads_are = refl; at_end = by_answer read.answer found } where
  by_answer : (answer : Got) → is_end answer ≡ true → answer ≡ got.End
  by_answer (got.Bytes n) found = cc
  by_answer got.End found = refl
  by_answer got.Failed found = cc

pub done_finds_end : {S : Type 0} (read_gives : S → Read → S → Type 0) (write_gives : S → Write → S → Type 0) (limit : ℕ) (done : Type 0) (before after : S)
    (stops : StopsReading line_by_line read_gives write_gives limit done before after) → done → FindsEnd (stops.goes.last ++ reads_of stops.goes.turns)
done_finds_end read_gives write_gives limit done before after stops is =
    elim (stops.at_end is) [
      | inl found ↦ finds_end (stops.goes.last ++ reads_of stops.goes.turns) found
      | inr closes ↦ cc
    ]

-- with each turn as many lines have ended as there are replies
pub replies_due : (turns : List (Turn Reply)) → AreTurns line_by_line turns →
    length (answers_of turns) ≤ length (lines (bytes_read (reads_of turns)) (found_end (reads_of turns)))
replies_due [] are = omega arith
replies_due (turn ∷ earlier) are = are.1.due
