-- A connection's progress, request by request, and its ends.
use Rattle.std.proofs.Common.{◌≡◌, ℕ, ◌+◌, ◌<◌, ◌||◌, Bool, true, false, List, [], ◌∷◌, ◌++◌, length, take, drop, sym, refl, ap, ◌∙◌, subst, inl, inr, arith, append-nil, append_assoc, length-append}
use Rattle.std.specs.List.{list_any}
use Rattle.std.proofs.lemmas.Bool.{true≢false}
use Rattle.std.proofs.lemmas.List.{map-append}
use Rattle.std.proofs.lemmas.List.Concat.{flat_map-append}
use Rattle.std.proofs.KnownBytes.{Appends-nil, Appends-trans}
use Rattle.funnel_io.proofs.Taking.{Takes-nil, Takes-trans}
use Rattle.funnel_io.specs.Counts.{counted, raised}
use Rattle.funnel_io.specs.Streams.{Incoming, Outgoing, Writes, WritesPart}
use Rattle.funnel_io.specs.declared.end.End.{End}
use Rattle.funnel_io.specs.declared.end.End.TheVariants as end_of
use Rattle.funnel_model.specs.declared.event.Event.{Event}
use Rattle.funnel_model.specs.declared.reply.Reply.TheVariants as reply
use Rattle.httparse.proofs.GrammarLemmas.{ReadsRequest-append}
use Rattle.httparse.specs.Grammar.{RequestHead}
use Rattle.line_proto.proofs.Rendering.{asked_without_memory}
use Rattle.line_proto.specs.Services.{Caller}
use Rattle.session.specs.Ends.{Stand, is_read_fault, is_write_fault}
use Rattle.http_front.specs.Ends.{IsOver, ServesRequests}
use Rattle.http_front.specs.Entries.{Asks, BeginsWith, Entry, HasNoEntry, ReadsEntry, Refused, is_last}
use Rattle.http_front.specs.Heads.{HasHead, HasRequest}
use Rattle.http_front.specs.Responses.{is_long, text_of}
use Rattle.http_front.specs.Sessions.{Answers, AnswersAll, AnswersOpen, Exchange, Exchanges, Session, entries_of, response_of, responses}
use Rattle.http_front.specs.Steps.{AnswersFrame, HasRead, HasServed, IsRendered, StopsUndecided}
use Rattle.http_front.specs.declared.cause.Cause.{Cause}
use Rattle.http_front.specs.declared.outcome.Outcome.{Outcome}
use Rattle.http_front.specs.declared.outcome.Outcome.TheVariants as outcome
use Rattle.http_front.specs.declared.outcome.Shape.{Shape}
use Rattle.http_front.specs.declared.outcome.Shape.TheVariants as shape
use Rattle.funnel_model.proofs.Absence.{neither}

-- further bytes leave a head that begins them as it is
pub HasHead-append : (bytes : List ℕ) (head : RequestHead) (after more : List ℕ) → HasHead bytes head after → HasHead (bytes ++ more) head (after ++ more)
HasHead-append bytes head after more has = record {
  reads = ReadsRequest-append bytes head after more has.reads;
  short = has.short;
  few = has.few;
}

-- and so a request
pub HasRequest-append : (bytes : List ℕ) (head : RequestHead) (body rest more : List ℕ) → HasRequest bytes head body rest
    → HasRequest (bytes ++ more) head body (rest ++ more)
HasRequest-append bytes head body rest more has = record {
  begins = subst (HasHead (bytes ++ more) head) (append_assoc body rest more) (HasHead-append bytes head (body ++ rest) more has.begins);
  plain = has.plain;
  said = has.said;
  short = has.short;
}

both : (b : Bool) → b ≡ true → b ≡ false → ⊥
both b up down = true≢false (sym up ∙ down)

-- and so an entry that doesn't close
pub ReadsEntry-append : (bytes : List ℕ) (entry : Entry) (rest more : List ℕ) → is_last entry ≡ false → ReadsEntry bytes entry rest
    → ReadsEntry (bytes ++ more) entry (rest ++ more)
ReadsEntry-append bytes entry rest more none (inl is) =
    inl (record { head = is.head; body = is.body; whole = HasRequest-append bytes is.head is.body rest more is.whole; is = is.is })
ReadsEntry-append bytes entry rest more none (inr cut) = absurd (both (is_last entry) (ap is_last cut.is) none)

-- and so entries of which none closes
pub BeginsWith-append : (bytes : List ℕ) (entries : List Entry) (rest more : List ℕ) → list_any is_last entries ≡ false → BeginsWith bytes entries rest
    → BeginsWith (bytes ++ more) entries (rest ++ more)
BeginsWith-append bytes [] rest more none begin = ap (λ b. b ++ more) begin
BeginsWith-append bytes (entry ∷ others) rest more none begin =
    let open_ = neither (is_last entry) (list_any is_last others) none in
    (begin.0 ++ more, ReadsEntry-append bytes entry begin.0 more open_.0 begin.1, begin.2, BeginsWith-append begin.0 others rest more open_.1 begin.3)

-- one more entry
pub BeginsWith-push : (bytes : List ℕ) (entries : List Entry) (middle : List ℕ) (entry : Entry) (rest : List ℕ)
    → list_any is_last entries ≡ false → BeginsWith bytes entries middle → ReadsEntry middle entry rest → BeginsWith bytes (entries ++ entry ∷ []) rest
BeginsWith-push bytes [] middle entry rest none begin reads =
    (rest, subst (λ (b : List ℕ). ReadsEntry b entry rest) (sym begin) reads, (λ last. refl), refl)
BeginsWith-push bytes (first ∷ others) middle entry rest none begin reads =
    let open_ = neither (is_last first) (list_any is_last others) none in
    (begin.0, begin.1, (λ last. absurd (both (is_last first) last open_.0)), BeginsWith-push begin.0 others middle entry rest open_.1 begin.3 reads)

-- one of the entries closes, where the last of them does
pub last-push : (entries : List Entry) (entry : Entry) (closing : Bool) → list_any is_last entries ≡ false → is_last entry ≡ closing
    → list_any is_last (entries ++ entry ∷ []) ≡ closing
last-push [] entry true none is = ap (λ b. b || false) is
last-push [] entry false none is = ap (λ b. b || false) is
last-push (first ∷ others) entry closing none is =
    let open_ = neither (is_last first) (list_any is_last others) none in
    ap (λ b. b || list_any is_last (others ++ entry ∷ [])) open_.0 ∙ last-push others entry closing open_.1 is

-- one more exchange
pub Answers-push : (caller : Caller) (before middle after : List Event) (exchanges : List Exchange) (exchange : Exchange)
    → Answers caller before exchanges middle → Exchanges caller middle exchange after → Answers caller before (exchanges ++ exchange ∷ []) after
Answers-push caller before middle after [] exchange is answers =
    (after, subst (λ (h : List Event). Exchanges caller h exchange after) (sym is) answers, refl)
Answers-push caller before middle after (x ∷ xs) exchange run answers =
    (run.0, run.1, Answers-push caller run.0 middle after xs exchange run.2 answers)

pub responses-push : (exchanges : List Exchange) (exchange : Exchange) → responses (exchanges ++ exchange ∷ []) ≡ responses exchanges ++ response_of exchange
responses-push exchanges exchange = flat_map-append response_of exchanges (exchange ∷ []) ∙ ap (λ bs. responses exchanges ++ bs) (append-nil (response_of exchange))

pub entries-push : (exchanges : List Exchange) (exchange : Exchange) → entries_of (exchanges ++ exchange ∷ []) ≡ entries_of exchanges ++ exchange.entry ∷ []
entries-push exchanges exchange = map-append (λ (e : Exchange). e.entry) exchanges (exchange ∷ [])

-- what is written is the response that tells something, by which the entry is answered
pub record IsTold (caller : Caller) (before : List Event) (entry : Entry) (text : List ℕ) (after : List Event) : Type 0 where
  pub told : Outcome
  pub answers : Exchanges caller before (record { entry = entry; told = told }) after
  pub is : text ≡ text_of (is_last entry) told

-- a want of memory is told alike in each shape
memory_text : (form : Shape) (closing : Bool) → text_of closing (outcome.Replied form reply.Memory) ≡ text_of closing (outcome.Replied shape.Object reply.Memory)
unfolding text_of
memory_text shape.Object closing = refl
memory_text (shape.Document id) closing = refl
memory_text shape.Metrics closing = refl

-- a refusal isn't long
short_refusal : (told : Outcome) (why : Cause) → told ≡ outcome.Refused why → is_long told ≡ true → ⊥
short_refusal told why same long = both (is_long told) long (ap is_long same)

pub rendered : (caller : Caller) (before after : List Event) (entry : Entry) (told : Outcome) (text : List ℕ)
    → Exchanges caller before (record { entry = entry; told = told }) after → IsRendered (is_last entry) told text → IsTold caller before entry text after
rendered caller before after entry told text answers (inl is) = record { told = told; answers = answers; is = is }
rendered caller before after (Asks asked form closing) told text (inl answers) (inr wanting) =
    let long = subst (λ (t : Outcome). is_long t ≡ true) answers.1 wanting.0 in
    record {
      told = outcome.Replied form reply.Memory;
      answers = inl (reply.Memory, refl, asked_without_memory caller before after asked answers.0 long answers.2);
      is = wanting.1 ∙ sym (memory_text form closing);
    }
rendered caller before after (Refused why closing) told text (inl answers) (inr wanting) = absurd (short_refusal told why answers.0 wanting.0)
rendered caller before after entry told text (inr lacks) (inr wanting) =
    absurd (both (is_long told) wanting.0 (ap is_long lacks.told))

-- nothing was done yet
pub served_none : (caller : Caller) (limit : ℕ) (old : Stand) → HasServed caller limit limit [] old old
served_none caller limit old = record {
  taken = [];
  takes = Takes-nil old.incoming;
  count = omega arith;
  exchanges = [];
  begin = refl;
  none_closes = refl;
  answers = refl;
  writes = Appends-nil old.outgoing.written;
  reads_stay = refl;
  writes_stay = refl;
}

-- more was read
pub served_read : (caller : Caller) (limit may may' : ℕ) (held held' : List ℕ) (old now : Stand) (incoming' : Incoming)
    → HasServed caller limit may held old now → HasRead now.incoming incoming' held held' may may' → incoming'.faults ≡ now.incoming.faults
    → HasServed caller limit may' held' old (record { front = now.front; incoming = incoming'; outgoing = now.outgoing })
served_read caller limit may may' held held' old now incoming' p r stay = record {
  taken = p.taken ++ r.bytes;
  takes = Takes-trans old.incoming now.incoming incoming' p.taken r.bytes p.takes r.takes;
  count = omega (arith, p.count, r.count, length-append p.taken r.bytes);
  exchanges = p.exchanges;
  begin = subst (BeginsWith (p.taken ++ r.bytes) (entries_of p.exchanges)) (sym r.grown)
      (BeginsWith-append p.taken (entries_of p.exchanges) held r.bytes p.none_closes p.begin);
  none_closes = p.none_closes;
  answers = p.answers;
  writes = p.writes;
  reads_stay = stay ∙ p.reads_stay;
  writes_stay = p.writes_stay;
}

module _ (caller : Caller) (limit may : ℕ) (held : List ℕ) (old now : Stand) (p : HasServed caller limit may held old now) where
  -- the next entry was answered, and this is the text of its response
  module _ (len : ℕ) (closing : Bool) (told : Outcome) (front' : List Event) (a : AnswersFrame held len closing caller now.front told front')
      (text : List ℕ) (r : IsRendered closing told text) where
    is_told : IsTold caller now.front a.entry text front'
    is_told = rendered caller now.front front' a.entry told text a.answers (subst (λ (c : Bool). IsRendered c told text) (sym a.last) r)

    exchange : Exchange
    exchange = record { entry = a.entry; told = is_told.told }

    exchanges_now : List Exchange
    exchanges_now = p.exchanges ++ exchange ∷ []

    begin_now : BeginsWith p.taken (entries_of exchanges_now) (drop len held)
    unfolding exchanges_now exchange
    begin_now = subst (λ (es : List Entry). BeginsWith p.taken es (drop len held)) (sym (entries-push p.exchanges exchange))
        (BeginsWith-push p.taken (entries_of p.exchanges) held a.entry (drop len held) p.none_closes p.begin a.reads)

    last_now : list_any is_last (entries_of exchanges_now) ≡ closing
    unfolding exchanges_now exchange
    last_now = ap (list_any is_last) (entries-push p.exchanges exchange) ∙ last-push (entries_of p.exchanges) a.entry closing p.none_closes a.last

    answers_now : Answers caller old.front exchanges_now front'
    unfolding exchanges_now exchange
    answers_now = Answers-push caller old.front now.front front' p.exchanges exchange p.answers is_told.answers

    writes_now : (outgoing' : Outgoing) → Writes text now.outgoing outgoing' → Writes (responses exchanges_now) old.outgoing outgoing'
    unfolding exchanges_now exchange
    writes_now outgoing' writes = subst (λ (bs : List ℕ). Writes bs old.outgoing outgoing')
        (ap (λ bs. responses p.exchanges ++ bs) is_told.is ∙ sym (responses-push p.exchanges exchange))
        (Appends-trans old.outgoing.written now.outgoing.written outgoing'.written (responses p.exchanges) text p.writes writes)

    -- its response was written, and it doesn't close
    pub served_more : (outgoing' : Outgoing) → closing ≡ false → Writes text now.outgoing outgoing' → outgoing'.faults ≡ now.outgoing.faults
        → HasServed caller limit may (drop len held) old (record { front = front'; incoming = now.incoming; outgoing = outgoing' })
    served_more outgoing' goes_on writes stay = record {
      taken = p.taken;
      takes = p.takes;
      count = p.count;
      exchanges = exchanges_now;
      begin = begin_now;
      none_closes = last_now ∙ goes_on;
      answers = answers_now;
      writes = writes_now outgoing' writes;
      reads_stay = p.reads_stay;
      writes_stay = stay ∙ p.writes_stay;
    }

    -- its response was written, and it closes
    pub serves_last : (outgoing' : Outgoing) → closing ≡ true → Writes text now.outgoing outgoing' → outgoing'.faults ≡ now.outgoing.faults
        → ServesRequests caller limit old (record { front = front'; incoming = now.incoming; outgoing = outgoing' }) end_of.Done
    serves_last outgoing' closes writes stay = record {
      taken = p.taken;
      takes = p.takes;
      written = responses exchanges_now;
      writes = writes_now outgoing' writes;
      session = record {
        exchanges = exchanges_now;
        requests = record { rest = drop len held; begin = begin_now; all = inl (last_now ∙ closes) };
        answers = answers_now;
        text = refl;
      };
      faults = record { reads = p.reads_stay; writes = stay ∙ p.writes_stay };
      over = inl (last_now ∙ closes, omega (arith, p.count));
    }

    -- a write of its response failed
    pub serves_part : (outgoing' : Outgoing) → WritesPart text now.outgoing outgoing' → outgoing'.faults ≡ raised now.outgoing.faults
        → ServesRequests caller limit old (record { front = front'; incoming = now.incoming; outgoing = outgoing' }) end_of.WriteFault
    unfolding exchanges_now exchange
    serves_part outgoing' part rose = record {
      taken = p.taken;
      takes = p.takes;
      written = responses p.exchanges ++ take part.count text;
      writes = Appends-trans old.outgoing.written now.outgoing.written outgoing'.written (responses p.exchanges) (take part.count text) p.writes part.writes;
      session = record {
        first = p.exchanges;
        last = exchange;
        rest = drop len held;
        begin = begin_now;
        answers = answers_now;
        count = part.count;
        proper = subst (λ (bs : List ℕ). part.count < length bs) is_told.is part.proper;
        text = ap (λ bs. responses p.exchanges ++ take part.count bs) is_told.is;
      };
      faults = record { reads = p.reads_stay; writes = rose ∙ ap raised p.writes_stay };
      over = omega (arith, p.count);
    }

  -- no more is read, and nothing that is answered begins the bytes that are held
  module _ (may' : ℕ) (held' : List ℕ) (incoming' : Incoming) where
    module _ (end : End) (s : StopsUndecided HasNoEntry limit end now.incoming incoming' held held' may may') where
      taken_now : List ℕ
      taken_now = p.taken ++ s.read.bytes

      count_now : may' + length taken_now ≡ limit
      unfolding taken_now
      count_now = omega (arith, p.count, s.read.count, length-append p.taken s.read.bytes)

      all_now : AnswersAll caller old.front now.front taken_now (responses p.exchanges)
      unfolding taken_now
      all_now = record {
        exchanges = p.exchanges;
        requests = record {
          rest = held';
          begin = subst (BeginsWith (p.taken ++ s.read.bytes) (entries_of p.exchanges)) (sym s.read.grown)
              (BeginsWith-append p.taken (entries_of p.exchanges) held s.read.bytes p.none_closes p.begin);
          all = inr s.undecided;
        };
        answers = p.answers;
        text = refl;
      }

      open_now : AnswersOpen caller old.front now.front taken_now (responses p.exchanges)
      unfolding all_now
      open_now = record { all = all_now; none_closes = p.none_closes }

      over_now : is_write_fault end ≡ false → (session : Session caller old.front now.front taken_now (responses p.exchanges) end)
          → IsOver caller limit old (record { front = now.front; incoming = incoming'; outgoing = now.outgoing }) taken_now (responses p.exchanges) end session
          → ServesRequests caller limit old (record { front = now.front; incoming = incoming'; outgoing = now.outgoing }) end
      unfolding taken_now
      over_now no_write session over = record {
        taken = p.taken ++ s.read.bytes;
        takes = Takes-trans old.incoming now.incoming incoming' p.taken s.read.bytes p.takes s.read.takes;
        written = responses p.exchanges;
        writes = p.writes;
        session = session;
        faults = record { reads = s.faults ∙ ap (counted (is_read_fault end)) p.reads_stay; writes = rw no_write p.writes_stay };
        over = over;
      }

    pub serves_stopped : (end : End) → StopsUndecided HasNoEntry limit end now.incoming incoming' held held' may may'
        → ServesRequests caller limit old (record { front = now.front; incoming = incoming'; outgoing = now.outgoing }) end
    serves_stopped end_of.Done s = over_now end_of.Done s refl (all_now end_of.Done s) (inr (s.stopped.0, omega (arith, count_now end_of.Done s, s.stopped.1)))
    serves_stopped end_of.ReadFault s = over_now end_of.ReadFault s refl (open_now end_of.ReadFault s) (omega (arith, count_now end_of.ReadFault s, s.stopped))
    serves_stopped (end_of.ByteLimit told) s =
        let full : length (taken_now (end_of.ByteLimit told) s) ≡ limit = omega (arith, count_now (end_of.ByteLimit told) s, s.stopped.1) in
        over_now (end_of.ByteLimit told) s refl (full ∙ sym s.stopped.0, open_now (end_of.ByteLimit told) s) (s.stopped.0, full)
    serves_stopped end_of.WriteFault s = absurd s.stopped
    serves_stopped end_of.Memory s = absurd s.stopped

-- the same of numbers, bytes and an incoming side that are equal
pub served_as : (caller : Caller) (limit may may' : ℕ) (held held' : List ℕ) (old : Stand) (front : List Event) (incoming incoming' : Incoming) (outgoing : Outgoing)
    → may ≡ may' → held ≡ held' → incoming ≡ incoming'
    → HasServed caller limit may held old (record { front = front; incoming = incoming; outgoing = outgoing })
    → HasServed caller limit may' held' old (record { front = front; incoming = incoming'; outgoing = outgoing })
served_as caller limit may may' held held' old front incoming incoming' outgoing may_is held_is incoming_is served =
    subst (λ (n : ℕ). HasServed caller limit n held' old (record { front = front; incoming = incoming'; outgoing = outgoing })) may_is
    (subst (λ (bs : List ℕ). HasServed caller limit may bs old (record { front = front; incoming = incoming'; outgoing = outgoing })) held_is
    (subst (λ (i : Incoming). HasServed caller limit may held old (record { front = front; incoming = i; outgoing = outgoing })) incoming_is served))
