-- The calls on a connection of requests, request by request.
use Rattle.std.proofs.Common.{◌≡◌, ◌<◌, ℕ, Bool, true, false, List, [], ◌∷◌, ◌++◌, length, drop, refl, sym, ap, ◌∙◌, subst, inl, inr, arith, append-nil, append_assoc, length-append}
use Rattle.std.specs.List.{list_any}
use Rattle.funnel_io.specs.Answers.{MatchGot}
use Rattle.funnel_io.specs.Calls.{Read, Write, Leads, GaveBytes, WritesAs, AreBelow, bytes_read, found_end, is_end}
use Rattle.funnel_io.specs.BufferReads.{ReadsOnce}
use Rattle.funnel_io.specs.Streams.{Incoming}
use Rattle.funnel_io.specs.declared.end.End.{End}
use Rattle.funnel_io.specs.declared.end.End.TheVariants as end_of
use Rattle.funnel_io.specs.declared.source.Got.{Got}
use Rattle.funnel_io.specs.declared.source.Got.TheVariants as got
use Rattle.funnel_io.proofs.CallLaws.{below_after, below_at, bytes_read-append, gave_bytes-append}
use Rattle.funnel_model.specs.declared.event.Event.{Event}
use Rattle.line_proto.specs.Services.{Caller}
use Rattle.session.proofs.Turns.{stops_last, stops_written, taken_more, taken_none}
use Rattle.session.specs.Turns.{AreReadInTurn, AreTurns, StopsReading, Turn, answers_of, reads_of}
use Rattle.http_front.specs.Entries.{BeginsWith, Entry, HasNoEntry, is_last}
use Rattle.http_front.specs.Sessions.{Exchange, entries_of}
use Rattle.http_front.specs.Steps.{AnswersFrame, IsRendered, IsUndecided}
use Rattle.http_front.specs.Turns.{request_by_request}
use Rattle.http_front.specs.TurnSteps.{AreNeeded, FindsEndAs, HasHadTurns, ReadsAsNeeded}
use Rattle.http_front.specs.declared.outcome.Outcome.{Outcome}
use Rattle.http_front.proofs.Progress.{BeginsWith-append, BeginsWith-push, IsTold, entries-push, last-push, rendered}

-- calls that lead on from where others led
Leads-append : {S C : Type 0} (gives : S → C → S → Type 0) (first between now : S) (later earlier : List C) → Leads gives first earlier between → Leads gives between later now
    → Leads gives first (later ++ earlier) now
Leads-append {S} {C} gives first between now [] earlier lead on = subst (λ (s : S). Leads gives first earlier s) on lead
Leads-append {S} {C} gives first between now (call ∷ later) earlier lead on = (on.0, Leads-append gives first between on.0 later earlier lead on.1, on.2)

-- the last read found the end, after those before it too
pub found-append : (reads earlier : List Read) → found_end reads ≡ true → found_end (reads ++ earlier) ≡ true
found-append [] earlier found = cc
found-append (read ∷ reads) earlier found = found

-- what an answer tells of the read that had it
pub gave_some : (n : ℕ) (read : Read) (earlier : List Read) → read.answer ≡ got.Bytes n → GaveBytes (read ∷ earlier)
gave_some n read earlier is = subst (λ (answer : Got). MatchGot answer (λ _. Unit {0}) ⊥ ⊥) (sym is) tt

pub found_it : (read : Read) (earlier : List Read) → read.answer ≡ got.End → FindsEndAs end_of.Done (read ∷ earlier)
found_it read earlier is = λ done. ap is_end is

pub found_none : (read : Read) (earlier : List Read) → read.answer ≡ got.Failed → FindsEndAs end_of.ReadFault (read ∷ earlier)
found_none read earlier is = λ done. cc

module _ {S : Type 0} (read_gives : S → Read → S → Type 0) where
  -- no read was made
  pub reads_none : (Undecided : List ℕ → Type 0) (now : S) (held : List ℕ) (may : ℕ) → ReadsAsNeeded Undecided GaveBytes read_gives now now held held may may
  reads_none Undecided now held may = record { reads = []; lead = refl; needed = tt; last = tt; grown = sym (append-nil held); count = omega arith }

  -- the limit is no end of the source
  pub reads_to_limit : (Undecided : List ℕ → Type 0) (before now : S) (held held' : List ℕ) (may may' limit : ℕ)
      → ReadsAsNeeded Undecided GaveBytes read_gives before now held held' may may'
      → ReadsAsNeeded Undecided (FindsEndAs (end_of.ByteLimit limit)) read_gives before now held held' may may'
  reads_to_limit Undecided before now held held' may may' limit p = record {
    reads = p.reads;
    lead = p.lead;
    needed = p.needed;
    last = λ done. cc;
    grown = p.grown;
    count = p.count;
  }

  -- one more read had to be made
  pub reads_next : (incoming : S → Incoming) (Undecided : List ℕ → Type 0) (Last : List Read → Type 0) (first between now : S) (held held' held'' : List ℕ) (may may' may'' : ℕ) (answer : Got)
      → ReadsAsNeeded Undecided GaveBytes read_gives first between held held' may may' → Undecided held' → 0 < may'
      → ReadsOnce incoming read_gives between now held' held'' answer may' may'' → ((read : Read) (earlier : List Read) → read.answer ≡ answer → Last (read ∷ earlier))
      → ReadsAsNeeded Undecided Last read_gives first now held held'' may may''
  reads_next incoming Undecided Last first between now held held' held'' may may' may'' answer p undecided some once last = record {
    reads = once.read ∷ p.reads;
    lead = (between, p.lead, once.step);
    needed = (p.needed, record { going_on = p.last; undecided = subst Undecided p.grown undecided; below = below_at may may' once.read.room p.reads p.count some once.room });
    last = last once.read p.reads once.answered;
    grown = once.grown ∙ (ap (λ bs. bs ++ once.read.bytes) p.grown ∙ append_assoc held (bytes_read p.reads) once.read.bytes);
    count = omega (arith, p.count, once.count, length-append (bytes_read p.reads) once.read.bytes);
  }

  -- and more had to be, before so many bytes were there that something may be decided
  module _ (Last : List Read → Type 0) (more : (reads earlier : List Read) → GaveBytes earlier → Last reads → Last (reads ++ earlier))
      (first between now : S) (held held' held'' : List ℕ) (may may' may'' least : ℕ) (undecided : IsUndecided held' least)
      (p : ReadsAsNeeded HasNoEntry GaveBytes read_gives first between held held' may may')
      (q : ReadsAsNeeded (λ bytes. length bytes < least) Last read_gives between now held' held'' may' may'') where
    behind : (reads : List Read) → held ++ bytes_read (reads ++ p.reads) ≡ held' ++ bytes_read reads
    behind reads = ap (λ bs. held ++ bs) (bytes_read-append reads p.reads)
        ∙ (sym (append_assoc held (bytes_read p.reads) (bytes_read reads)) ∙ ap (λ bs. bs ++ bytes_read reads) (sym p.grown))

    needed_on : (reads : List Read) → AreNeeded (λ bytes. length bytes < least) held' may' reads → AreNeeded HasNoEntry held may (reads ++ p.reads)
    needed_on [] needed = p.needed
    needed_on (read ∷ earlier) needed = (
      needed_on earlier needed.0,
      record {
        going_on = gave_bytes-append earlier p.reads needed.1.going_on p.last;
        undecided = subst HasNoEntry (sym (behind earlier)) (undecided.none (bytes_read earlier) needed.1.undecided);
        below = below_after may may' read.room earlier p.reads p.count needed.1.below;
      },
    )

    pub reads_on : ReadsAsNeeded HasNoEntry Last read_gives first now held held'' may may''
    reads_on = record {
      reads = q.reads ++ p.reads;
      lead = Leads-append read_gives first between now q.reads p.reads p.lead q.lead;
      needed = needed_on q.reads q.needed;
      last = more q.reads p.reads p.last q.last;
      grown = q.grown ∙ sym (behind q.reads);
      count = omega (
        arith,
        p.count,
        q.count,
        ap length (bytes_read-append q.reads p.reads),
        length-append (bytes_read p.reads) (bytes_read q.reads),
      );
    }

module _ {S : Type 0} (read_gives : S → Read → S → Type 0) (write_gives : S → Write → S → Type 0) where
  -- nothing was done yet
  pub had_none : (limit : ℕ) (now : S) → HasHadTurns read_gives write_gives limit limit [] now now
  had_none limit now = record { so_far = taken_none request_by_request read_gives write_gives limit now; begin = refl; none_closes = refl; gave = tt }

  -- the same of a number and bytes that are equal
  pub had_as : (limit may may' : ℕ) (held held' : List ℕ) (before now : S) → may ≡ may' → held ≡ held'
      → HasHadTurns read_gives write_gives limit may held before now → HasHadTurns read_gives write_gives limit may' held' before now
  had_as limit may may' held held' before now may_is held_is had =
      subst (λ (n : ℕ). HasHadTurns read_gives write_gives limit n held' before now) may_is
      (subst (λ (bs : List ℕ). HasHadTurns read_gives write_gives limit may bs before now) held_is had)

  module _ (limit may may' : ℕ) (held held' : List ℕ) (before now middle : S) (p : HasHadTurns read_gives write_gives limit may held before now) where
    begin_on : (reads : List Read) → BeginsWith (bytes_read (reads ++ reads_of p.so_far.turns)) (entries_of (answers_of p.so_far.turns)) (held ++ bytes_read reads)
    begin_on reads = subst (λ (bs : List ℕ). BeginsWith bs (entries_of (answers_of p.so_far.turns)) (held ++ bytes_read reads)) (sym (bytes_read-append reads (reads_of p.so_far.turns)))
        (BeginsWith-append (bytes_read (reads_of p.so_far.turns)) (entries_of (answers_of p.so_far.turns)) held (bytes_read reads) p.none_closes p.begin)

    -- reads that have to be made come where every whole request had its turn, and every read gave bytes
    in_turn : (reads : List Read) → AreNeeded HasNoEntry held may reads → AreReadInTurn request_by_request p.so_far.turns reads
    in_turn [] needed = tt
    in_turn (read ∷ earlier) needed = (
      in_turn earlier needed.0,
      record {
        going_on = gave_bytes-append earlier (reads_of p.so_far.turns) needed.1.going_on p.gave;
        answered = record { rest = held ++ bytes_read earlier; begin = begin_on earlier; all = inr needed.1.undecided };
        none_closes = p.none_closes;
      },
    )

    -- and below the limit
    below_on : (reads : List Read) → AreNeeded HasNoEntry held may reads → AreBelow limit (reads ++ reads_of p.so_far.turns)
    below_on [] needed = p.so_far.below
    below_on (read ∷ earlier) needed =
        (below_on earlier needed.0, below_after limit may read.room earlier (reads_of p.so_far.turns) p.so_far.count needed.1.below)

    -- no further request came
    pub stops_reading : (end : End) → ReadsAsNeeded HasNoEntry (FindsEndAs end) read_gives now middle held held' may may'
        → StopsReading request_by_request read_gives write_gives limit (end ≡ end_of.Done) before middle
    stops_reading end r =
        stops_last request_by_request read_gives write_gives limit may may' before now middle p.so_far r.reads r.lead (in_turn r.reads r.needed) (below_on r.reads r.needed)
        (end ≡ end_of.Done) (λ done. inl (found-append r.reads (reads_of p.so_far.turns) (r.last done)))

    -- a request came, and this is the text of its response
    module _ (r : ReadsAsNeeded HasNoEntry GaveBytes read_gives now middle held held' may may') (caller : Caller) (front front' : List Event) (len : ℕ) (closing : Bool)
        (told : Outcome) (a : AnswersFrame held' len closing caller front told front') (text : List ℕ) (rendering : IsRendered closing told text) (after : S) where
      is_told : IsTold caller front a.entry text front'
      is_told = rendered caller front front' a.entry told text a.answers (subst (λ (c : Bool). IsRendered c told text) (sym a.last) rendering)

      abbrev exchange : Exchange
      exchange = record { entry = a.entry; told = is_told.told }

      begin_now : BeginsWith (bytes_read (r.reads ++ reads_of p.so_far.turns)) (entries_of (answers_of p.so_far.turns ++ exchange ∷ [])) (drop len held')
      begin_now = subst (λ (es : List Entry). BeginsWith (bytes_read (r.reads ++ reads_of p.so_far.turns)) es (drop len held'))
          (sym (entries-push (answers_of p.so_far.turns) exchange))
          (BeginsWith-push (bytes_read (r.reads ++ reads_of p.so_far.turns)) (entries_of (answers_of p.so_far.turns)) held' a.entry (drop len held') p.none_closes
          (subst (BeginsWith (bytes_read (r.reads ++ reads_of p.so_far.turns)) (entries_of (answers_of p.so_far.turns))) (sym r.grown) (begin_on r.reads)) a.reads)

      last_now : list_any is_last (entries_of (answers_of p.so_far.turns ++ exchange ∷ [])) ≡ closing
      last_now = ap (list_any is_last) (entries-push (answers_of p.so_far.turns) exchange)
          ∙ last-push (entries_of (answers_of p.so_far.turns)) a.entry closing p.none_closes a.last

      -- its response was written, and it doesn't close
      pub had_more : closing ≡ false → WritesAs write_gives text middle after false → HasHadTurns read_gives write_gives limit may' (drop len held') before after
      had_more goes_on w = record {
        so_far = taken_more request_by_request read_gives write_gives limit may may' before now middle p.so_far r.reads r.lead (in_turn r.reads r.needed) (below_on r.reads r.needed)
            exchange (drop len held', begin_now) text is_told.is after r.count w;
        begin = begin_now;
        none_closes = last_now ∙ goes_on;
        gave = gave_bytes-append r.reads (reads_of p.so_far.turns) r.last p.gave;
      }

      -- its writes are the last calls
      stops_writing : (failed : Bool) (done : Type 0) → (done → closing ≡ true) → WritesAs write_gives text middle after failed
          → StopsReading request_by_request read_gives write_gives limit done before after
      stops_writing failed done closes w =
          stops_written request_by_request read_gives write_gives limit may may' before now middle p.so_far r.reads r.lead (in_turn r.reads r.needed) (below_on r.reads r.needed)
          exchange (drop len held', begin_now) text is_told.is after failed done (λ is. inr (last_now ∙ closes is)) w

      -- it was written, and it closes
      pub stops_closing : (done : Type 0) → closing ≡ true → WritesAs write_gives text middle after false
          → StopsReading request_by_request read_gives write_gives limit done before after
      stops_closing done closes w = stops_writing false done (λ is. closes) w

      -- a write of it failed
      pub stops_failed : WritesAs write_gives text middle after true → StopsReading request_by_request read_gives write_gives limit (end_of.WriteFault ≡ end_of.Done) before after
      stops_failed w = stops_writing true (end_of.WriteFault ≡ end_of.Done) (λ done. cc) w

-- with each turn the bytes that were read begin with the requests that are answered
pub requests_due : (turns : List (Turn Exchange)) → AreTurns request_by_request turns →
    (rest : List ℕ) × BeginsWith (bytes_read (reads_of turns)) (entries_of (answers_of turns)) rest
requests_due [] are = ([], refl)
requests_due (turn ∷ earlier) are = are.1.due
