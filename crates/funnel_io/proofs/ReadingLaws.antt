-- The reads that a line is read by.
use Rattle.std.proofs.Common.{◌≡◌, ◌≢◌, ◌<◌, ◌+◌, ℕ, Bool, true, false, ◌||◌, List, [], ◌∷◌, ◌++◌, length, refl, sym, ap, ◌∙◌, subst, arith, append_assoc, append-nil, length-append}
use Rattle.std.proofs.lemmas.List.Elements.{All-append, All-tail}
use Rattle.funnel_io.specs.Answers.{MatchGot, read_failed}
use Rattle.funnel_io.specs.Calls.{Read, Leads, GaveBytes, bytes_read, found_end, is_end, last_failed}
use Rattle.funnel_io.specs.BufferReads.{ReadsOnce}
use Rattle.funnel_io.specs.LineReading.{ReaderState, HasGiven, Gives, NextLine, AreNeeded, IsNeeded, line_failed}
use Rattle.funnel_io.specs.LineSteps.{KeepsEnd, ReadsNext}
use Rattle.funnel_io.specs.Lines.{HasNoNewline}
use Rattle.funnel_io.specs.Streams.{Incoming, Takes}
use Rattle.funnel_io.specs.declared.line_reader.Line.{Line}
use Rattle.funnel_io.specs.declared.source.Got.{Got}
use Rattle.funnel_io.specs.declared.source.Got.TheVariants as got
use Rattle.funnel_io.proofs.LineLaws.{reads_on}
use Rattle.funnel_io.proofs.Taking.{Takes-nil, Takes-trans}
use Rattle.funnel_io.proofs.CallLaws.{below_at}

-- bytes without newline end without one
pub clean_behind : (xs ys : List ℕ) → HasNoNewline (xs ++ ys) → HasNoNewline ys
clean_behind [] ys clean = clean
clean_behind (x ∷ xs) ys clean = clean_behind xs ys (All-tail (λ byte. byte ≢ 10) x (xs ++ ys) clean)

-- a read into the buffer is one of the reader
pub reads_next : {S : Type 0} (incoming : S → Incoming) (gives : S → Read → S → Type 0) (before after : S) (old new : ReaderState) (held : List ℕ) (answer : Got) (may may' : ℕ)
    → ReadsOnce incoming gives before after held new.held answer may may' → new.ended ≡ is_end answer → old.ended ≡ false
    → KeepsEnd old.held old.long held new.long
    → ReadsNext incoming gives before after old new answer may may'
reads_next incoming gives before after old new held answer may may' once ended not_ended keeps = record {
  read = once.read;
  answered = once.answered;
  step = once.step;
  room = once.room;
  takes = once.takes;
  count = once.count;
  clean = λ clean. clean_behind held once.read.bytes (subst HasNoNewline once.grown clean);
  ended = ended ∙ ap (λ b. b || is_end answer) (sym not_ended);
  keeps = reads_on old new held once.read.bytes not_ended keeps once.grown;
}

-- every read so far gave bytes, and no line came of them; while no newline is held, none was among them
pub record HasRead {S : Type 0} (incoming : S → Incoming) (gives : S → Read → S → Type 0) (before now : S) (old reader : ReaderState) (may still : ℕ) : Type 0 where
  pub reads : List Read
  pub lead : Leads gives before reads now
  pub needed : AreNeeded old may reads
  pub going_on : GaveBytes reads
  pub takes : Takes (bytes_read reads) (incoming before) (incoming now)
  pub count : still + length (bytes_read reads) ≡ may
  pub clean : HasNoNewline reader.held → HasNoNewline (old.held ++ bytes_read reads)
  pub ended : reader.ended ≡ old.ended
  pub keeps : (taken : List ℕ) (given : List (List ℕ)) → HasGiven old taken given → HasGiven reader (taken ++ bytes_read reads) given

pub read_none : {S : Type 0} (incoming : S → Incoming) (gives : S → Read → S → Type 0) (now : S) (reader : ReaderState) (may : ℕ)
    → HasRead incoming gives now now reader reader may may
read_none incoming gives now reader may = record {
  reads = [];
  lead = refl;
  needed = tt;
  going_on = tt;
  takes = Takes-nil (incoming now);
  count = omega arith;
  clean = λ clean. subst HasNoNewline (sym (append-nil reader.held)) clean;
  ended = refl;
  keeps = λ taken given so_far. let P : List ℕ → Type 0 = λ all. HasGiven reader all given in subst P (sym (append-nil taken)) so_far;
}

or-false : (b : Bool) → (b || false) ≡ b
or-false true = refl
or-false false = refl

-- bytes that were given are no end
no_end : (reads : List Read) → GaveBytes reads → found_end reads ≡ false
no_end [] going_on = refl
no_end (read ∷ earlier) going_on = no_end_of read.answer going_on where
  no_end_of : (answer : Got) → MatchGot answer (λ _. Unit {0}) ⊥ ⊥ → is_end answer ≡ false
  no_end_of (got.Bytes n) so = refl
  no_end_of got.End so = absurd so
  no_end_of got.Failed so = absurd so

-- nor are they a failure
no_failure : (reads : List Read) → GaveBytes reads → last_failed reads ≡ false
no_failure [] going_on = refl
no_failure (read ∷ earlier) going_on = no_failure_of read.answer going_on where
  no_failure_of : (answer : Got) → MatchGot answer (λ _. Unit {0}) ⊥ ⊥ → read_failed answer ≡ false
  no_failure_of (got.Bytes n) so = refl
  no_failure_of got.End so = absurd so
  no_failure_of got.Failed so = absurd so

module _ {S : Type 0} (incoming : S → Incoming) (gives : S → Read → S → Type 0) (before now : S) (old reader : ReaderState) (may still : ℕ)
    (p : HasRead incoming gives before now old reader may still) where
  -- what the reader's answer says of the bytes that it took before it
  abbrev Answers : ReaderState → ReaderState → Line → Type 0
  Answers from new answer = (taken : List ℕ) (given : List (List ℕ)) → HasGiven from taken given → Gives answer taken given new

  -- an answer, where no further read was made
  pub answered : (new : ReaderState) (line : Line) → new.ended ≡ reader.ended → line_failed line ≡ false → Answers reader new line
      → NextLine incoming gives old new line before now may still
  answered new line same not_failed answers = record {
    reads = p.reads;
    lead = p.lead;
    needed = p.needed;
    ended = same ∙ (p.ended ∙ (sym (or-false old.ended) ∙ ap (λ b. old.ended || b) (sym (no_end p.reads p.going_on))));
    failed = no_failure p.reads p.going_on ∙ sym not_failed;
    takes = p.takes;
    count = p.count;
    gives = λ taken given so_far. answers (taken ++ bytes_read p.reads) given (p.keeps taken given so_far);
  }

  module _ (after : S) (next : ReaderState) (answer : Got) (may' : ℕ) (n : ReadsNext incoming gives now after reader next answer still may')
      (clean : HasNoNewline reader.held) (not_ended : reader.ended ≡ false) (some : 0 < still) where
    need : IsNeeded old may p.reads n.read.room
    need = record {
      not_ended = sym p.ended ∙ not_ended;
      going_on = p.going_on;
      undecided = p.clean clean;
      below = below_at may still n.read.room p.reads p.count some n.room;
    }

    takes_all : Takes (bytes_read p.reads ++ n.read.bytes) (incoming before) (incoming after)
    takes_all = Takes-trans (incoming before) (incoming now) (incoming after) (bytes_read p.reads) n.read.bytes p.takes n.takes

    count_all : may' + length (bytes_read p.reads ++ n.read.bytes) ≡ may
    count_all = omega (arith, p.count, n.count, length-append (bytes_read p.reads) n.read.bytes)

    keeps_all : (taken : List ℕ) (given : List (List ℕ)) → HasGiven old taken given → HasGiven next (taken ++ (bytes_read p.reads ++ n.read.bytes)) given
    keeps_all taken given so_far =
        let P : List ℕ → Type 0 = λ bs. HasGiven next bs given in
        subst P (append_assoc taken (bytes_read p.reads) n.read.bytes) (n.keeps (taken ++ bytes_read p.reads) given (p.keeps taken given so_far))

    -- an answer, where one more read was made
    pub answered_then : (new : ReaderState) (line : Line) → new.ended ≡ next.ended → read_failed answer ≡ line_failed line → Answers next new line
        → NextLine incoming gives old new line before after may may'
    answered_then new line same failed answers = record {
      reads = n.read ∷ p.reads;
      lead = (now, p.lead, n.step);
      needed = (p.needed, need);
      ended = same ∙ (n.ended ∙ (ap (λ b. b || is_end answer) p.ended ∙ ap (λ a. old.ended || is_end a) (sym n.answered)));
      failed = ap read_failed n.answered ∙ failed;
      takes = takes_all;
      count = count_all;
      gives = λ taken given so_far. answers (taken ++ (bytes_read p.reads ++ n.read.bytes)) given (keeps_all taken given so_far);
    }

    -- the read gave bytes
    pub has_read_on : (count : ℕ) → answer ≡ got.Bytes count → HasRead incoming gives before after old next may may'
    has_read_on count is = record {
      reads = n.read ∷ p.reads;
      lead = (now, p.lead, n.step);
      needed = (p.needed, need);
      going_on = subst (λ a. MatchGot a (λ _. Unit {0}) ⊥ ⊥) (sym (n.answered ∙ is)) tt;
      takes = takes_all;
      count = count_all;
      clean = λ clean_next. subst HasNoNewline (append_assoc old.held (bytes_read p.reads) n.read.bytes)
          (All-append (λ byte. byte ≢ 10) (old.held ++ bytes_read p.reads) n.read.bytes (p.clean clean) (n.clean clean_next));
      ended = n.ended ∙ (ap (λ a. reader.ended || is_end a) is ∙ (or-false reader.ended ∙ p.ended));
      keeps = keeps_all;
    }
