-- The calls on a connection, turn by turn, whatever is answered.
use Rattle.std.proofs.Common.{◌≡◌, ◌+◌, ◌⊎◌, ℕ, Bool, true, false, List, [], ◌∷◌, ◌++◌, length, take, drop, refl, sym, ap, ap₂, ◌∙◌, subst, arith, append_assoc, append-nil, length-append, take-append-drop}
use Rattle.std.specs.List.{flat_map}
use Rattle.std.proofs.lemmas.List.Concat.{flat_map-append}
use mathlib.Core.List.{IsPrefix}
use Rattle.funnel_io.specs.Answers.{bytes_put}
use Rattle.funnel_io.specs.Calls.{Read, Write, Leads, AreBelow, AreOfRest, WritesAs, bytes_read, bytes_written, found_end}
use Rattle.funnel_io.specs.declared.sink.Put.{Put}
use Rattle.funnel_io.specs.declared.sink.Put.TheVariants as put
use Rattle.funnel_io.proofs.CallLaws.{bytes_read-append}
use Rattle.session.specs.Turns.{Protocol, Turn, AreLast, AreReadInTurn, AreTurns, Follows, IsWritten, StopsReading, answers_of, bytes_of, reads_of}
use Rattle.session.specs.TurnSteps.{HasTakenTurns}

-- where the last answer was written whole, reads for which none was due may come last
last_in_turn : {A : Type 0} (protocol : Protocol A) (turns : List (Turn A)) (reads : List Read) → AreReadInTurn protocol turns reads → IsWritten protocol turns
    → AreLast protocol turns reads
last_in_turn protocol turns [] in_turn written = tt
last_in_turn protocol turns (read ∷ earlier) in_turn written = (in_turn, written)

module _ {S A : Type 0} (protocol : Protocol A) (read_gives : S → Read → S → Type 0) (write_gives : S → Write → S → Type 0) where
  -- no turn was taken yet
  abbrev pub taken_none : (limit : ℕ) (now : S) → HasTakenTurns protocol read_gives write_gives limit limit now now
  taken_none limit now = record { turns = []; turn_by_turn = refl; are = tt; written = tt; count = omega arith; below = tt }

  -- and nothing was done
  pub stops_at_once : (limit : ℕ) (done : Type 0) (now : S) → (done → ⊥) → StopsReading protocol read_gives write_gives limit done now now
  stops_at_once limit done now never = record {
    goes = record { turns = []; middle = now; turn_by_turn = refl; are = tt; last = []; last_lead = refl; last_are = tt };
    below = tt;
    at_end = λ is. absurd (never is);
  }

  -- these reads came in turn, below the limit
  module _ (limit may may' : ℕ) (before now middle : S) (p : HasTakenTurns protocol read_gives write_gives limit may before now) (reads : List Read)
      (lead : Leads read_gives now reads middle) (in_turn : AreReadInTurn protocol p.turns reads) (below : AreBelow limit (reads ++ reads_of p.turns)) where
    -- and no answer was due
    pub stops_last : (done : Type 0) → (done → (found_end (reads ++ reads_of p.turns) ≡ true) ⊎ (protocol.close (answers_of p.turns) ≡ true))
        → StopsReading protocol read_gives write_gives limit done before middle
    stops_last done at_end = record {
      goes = record {
        turns = p.turns;
        middle = now;
        turn_by_turn = p.turn_by_turn;
        are = p.are;
        last = reads;
        last_lead = lead;
        last_are = last_in_turn protocol p.turns reads in_turn p.written;
      };
      below = below;
      at_end = at_end;
    }

    -- and this answer was due
    module _ (answer : A) (due : protocol.AreDue (reads ++ reads_of p.turns) (answers_of p.turns ++ answer ∷ [])) (text : List ℕ) (is : text ≡ protocol.text_of answer) (after : S) where
      abbrev turn_of : List Write → Turn A
      turn_of writes = record { reads = reads; answer = answer; writes = writes }

      pub follows : (writes : List Write) → AreOfRest text writes → Follows protocol p.turns (turn_of writes)
      follows writes of_rest = record {
        written = p.written;
        reads = in_turn;
        due = due;
        one_text = subst (λ (bs : List ℕ). AreOfRest bs writes) is of_rest;
      }

      -- it was written
      abbrev pub taken_more : may' + length (bytes_read reads) ≡ may → WritesAs write_gives text middle after false → HasTakenTurns protocol read_gives write_gives limit may' before after
      taken_more count w = record {
        turns = turn_of w.writes ∷ p.turns;
        turn_by_turn = (now, p.turn_by_turn, record { middle = middle; reads = lead; writes = w.lead });
        are = (p.are, follows w.writes w.of_rest);
        written = w.sent ∙ is;
        count = omega (
          arith,
          p.count,
          count,
          ap length (bytes_read-append reads (reads_of p.turns)),
          length-append (bytes_read (reads_of p.turns)) (bytes_read reads),
        );
        below = below;
      }

      -- its writes are the last calls
      pub stops_written : (failed : Bool) (done : Type 0)
          → (done → (found_end (reads ++ reads_of p.turns) ≡ true) ⊎ (protocol.close (answers_of p.turns ++ answer ∷ []) ≡ true))
          → WritesAs write_gives text middle after failed → StopsReading protocol read_gives write_gives limit done before after
      stops_written failed done at_end w = record {
        goes = record {
          turns = turn_of w.writes ∷ p.turns;
          middle = after;
          turn_by_turn = (now, p.turn_by_turn, record { middle = middle; reads = lead; writes = w.lead });
          are = (p.are, follows w.writes w.of_rest);
          last = [];
          last_lead = refl;
          last_are = tt;
        };
        below = below;
        at_end = at_end;
      }

-- ---- what turns write

-- writes that are handed what is left of the bytes took the first of these
first_went : (bytes : List ℕ) (writes : List Write) → AreOfRest bytes writes → IsPrefix (bytes_written writes) bytes
first_went bytes [] of_rest = (bytes, refl)
first_went bytes (write ∷ earlier) of_rest =
    by_answer write.answer where
      by_answer : (answer : Put) → IsPrefix (bytes_written earlier ++ bytes_put answer write.piece) bytes
      by_answer (put.Bytes n) = (
        drop n write.piece,
        append_assoc (bytes_written earlier) (take n write.piece) (drop n write.piece)
            ∙ ap (λ xs. bytes_written earlier ++ xs) (take-append-drop n write.piece) ∙ sym of_rest.1.rest,
      )
      by_answer put.Failed = (write.piece, append_assoc (bytes_written earlier) [] write.piece ∙ sym of_rest.1.rest)

module _ {A : Type 0} (protocol : Protocol A) where
  texts-push : (answers : List A) (answer : A) → flat_map protocol.text_of (answers ++ answer ∷ []) ≡ flat_map protocol.text_of answers ++ protocol.text_of answer
  texts-push answers answer =
      flat_map-append protocol.text_of answers (answer ∷ []) ∙ ap (λ bs. flat_map protocol.text_of answers ++ bs) (append-nil (protocol.text_of answer))

  -- turns of which the last one's answer was written whole, too
  all_went : (turns : List (Turn A)) → AreTurns protocol turns → IsWritten protocol turns → bytes_of turns ≡ flat_map protocol.text_of (answers_of turns)
  all_went [] are written = refl
  all_went (turn ∷ earlier) are written =
      ap₂ (λ xs ys. xs ++ ys) (all_went earlier are.0 are.1.written) written ∙ sym (texts-push (answers_of earlier) turn.answer)

  -- what turns write begins the texts of their answers
  pub turns_write : (turns : List (Turn A)) → AreTurns protocol turns → IsPrefix (bytes_of turns) (flat_map protocol.text_of (answers_of turns))
  turns_write [] are = ([], refl)
  turns_write (turn ∷ earlier) are =
      let last = first_went (protocol.text_of turn.answer) turn.writes are.1.one_text in (
        last.0,
        append_assoc (bytes_of earlier) (bytes_written turn.writes) last.0
            ∙ ap₂ (λ xs ys. xs ++ ys) (all_went earlier are.0 are.1.written) last.1
            ∙ sym (texts-push (answers_of earlier) turn.answer),
      )
