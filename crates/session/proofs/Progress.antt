-- A session's progress, line by line, and its ends.
use Rattle.std.proofs.Common.{◌≡◌, ℕ, ◌<◌, Bool, true, false, List, [], ◌∷◌, ◌++◌, length, take, sym, refl, ap, ◌∙◌, subst, inl, inr, arith, append-nil, length-append}
use Rattle.std.proofs.lemmas.Bool.{true≢false}
use Rattle.std.proofs.lemmas.List.{length-map, map-append}
use Rattle.std.proofs.lemmas.List.Concat.{flat_map-append}
use Rattle.std.proofs.KnownBytes.{Appends-nil, Appends-trans}
use Rattle.funnel_io.proofs.LineLaws.{given_first, given_first_or_end}
use Rattle.funnel_io.proofs.Taking.{Takes-nil, Takes-trans}
use Rattle.funnel_io.specs.LineReading.{ReaderState, HasGiven, unused}
use Rattle.funnel_io.specs.Counts.{counted, raised}
use Rattle.funnel_io.specs.Lines.{lines}
use Rattle.funnel_io.specs.Streams.{Incoming, Outgoing, Takes, Writes, WritesPart}
use Rattle.funnel_io.specs.declared.end.End.{End}
use Rattle.funnel_io.specs.declared.end.End.TheVariants as end_of
use Rattle.funnel_model.specs.declared.event.Event.{Event}
use Rattle.funnel_model.specs.declared.reply.Reply.{Reply}
use Rattle.funnel_model.specs.declared.reply.Reply.TheVariants as reply
use Rattle.line_proto.proofs.Rendering.{asked_without_memory, not_long}
use Rattle.line_proto.specs.Forms.{Item, Asks, Malformed, TooLong, item_of, items, items_of}
use Rattle.line_proto.specs.Services.{Caller}
use Rattle.line_proto.specs.Texts.{text_of, texts}
use Rattle.session.specs.Ends.{IsWithin, Leaves, Serves, Stand, is_read_fault, is_write_fault}
use Rattle.session.specs.Sessions.{Answers, AnswersAll, AnswersItem, AnswersSome, Session}
use Rattle.session.specs.Steps.{AnswersNext, EndsNext, HasServedLines, IsRendered}

-- one more item and its reply
pub Answers-push : (caller : Caller) (before middle after : List Event) (asked : List Item) (replies : List Reply) (item : Item) (given : Reply)
    → Answers caller before asked replies middle → AnswersItem caller middle item given after
    → Answers caller before (asked ++ item ∷ []) (replies ++ given ∷ []) after
Answers-push caller before middle after [] [] item given is answers =
    (after, subst (λ (h : List Event). AnswersItem caller h item given after) (sym is) answers, refl)
Answers-push caller before middle after (x ∷ xs) (y ∷ ys) item given run answers =
    (run.0, run.1, Answers-push caller run.0 middle after xs ys item given run.2 answers)
Answers-push caller before middle after [] (y ∷ ys) item given run answers = absurd run
Answers-push caller before middle after (x ∷ xs) [] item given run answers = absurd run

pub texts-push : (replies : List Reply) (given : Reply) → texts (replies ++ given ∷ []) ≡ texts replies ++ text_of given
texts-push replies given = flat_map-append text_of replies (given ∷ []) ∙ ap (λ bs. texts replies ++ bs) (append-nil (text_of given))

-- what is written of a reply is the text of a reply to the item
abbrev IsReplied : Caller → List Event → Item → List ℕ → List Event → Type 0
IsReplied caller before item text after = (given : Reply) × AnswersItem caller before item given after × (text ≡ text_of given)

rendered : (caller : Caller) (before after : List Event) (item : Item) (given : Reply) (room : ℕ) (text : List ℕ)
    → AnswersItem caller before item given after → IsRendered given room text → IsReplied caller before item text after
rendered caller before after item given room text answers (inl is) = (given, answers, is)
rendered caller before after (Asks asked) given room text answers (inr wanting) = (
  reply.Memory,
  asked_without_memory caller before after asked given wanting.0 answers,
  wanting.2,
)
rendered caller before after Malformed given room text answers (inr wanting) = absurd (not_long given reply.Line answers.0 refl wanting.0)
rendered caller before after TooLong given room text answers (inr wanting) = absurd (not_long given reply.Long answers.0 refl wanting.0)

-- the source's end ended the last line, where more were given than newlines ended
last_ended : (reader : ReaderState) (taken : List ℕ) (given : List (List ℕ)) → HasGiven reader taken given
    → length (lines taken false) < length given → reader.ended ≡ true
last_ended reader taken given has_given more =
    elim (given_first_or_end reader taken given has_given) [
      | inl first ↦ absurd (omega (arith, more, ap length first.1, length-append given first.0))
      | inr at_end ↦ at_end
    ]

-- nothing was done yet
pub served_none : (caller : Caller) (limit : ℕ) (old : Stand) → HasGiven unused [] [] → HasServedLines caller limit limit unused old old
served_none caller limit old none = record {
  taken = [];
  takes = Takes-nil old.incoming;
  count = omega arith;
  given = [];
  has_given = none;
  knows_end = λ is. absurd (true≢false (sym is));
  replies = [];
  answers = refl;
  writes = Appends-nil old.outgoing.written;
  reads_stay = refl;
  writes_stay = refl;
}

module _ (caller : Caller) (limit may may' : ℕ) (reader reader' : ReaderState) (old now : Stand) (incoming' : Incoming) (front' : List Event)
    (p : HasServedLines caller limit may reader old now) where
  -- a line was answered, and this is the text of its reply
  module _ (given : Reply) (room : ℕ) (text : List ℕ)
      (a : AnswersNext caller reader reader' now.incoming incoming' may may' now.front front' given) (r : IsRendered given room text) where
    next : (line : List ℕ) × HasGiven reader' (p.taken ++ a.bytes) (p.given ++ line ∷ []) × AnswersItem caller now.front (item_of line) given front'
    next = a.next p.taken p.given p.has_given

    lines_now : List (List ℕ)
    lines_now = p.given ++ next.0 ∷ []

    has_given_now : HasGiven reader' (p.taken ++ a.bytes) lines_now
    unfolding lines_now
    has_given_now = next.1

    replied : IsReplied caller now.front (item_of next.0) text front'
    replied = rendered caller now.front front' (item_of next.0) given room text next.2 r

    takes_all : Takes (p.taken ++ a.bytes) old.incoming incoming'
    takes_all = Takes-trans old.incoming now.incoming incoming' p.taken a.bytes p.takes a.takes

    answers_all : Answers caller old.front (items_of lines_now) (p.replies ++ replied.0 ∷ []) front'
    unfolding lines_now
    answers_all = subst (λ (is : List Item). Answers caller old.front is (p.replies ++ replied.0 ∷ []) front') (sym (map-append item_of p.given (next.0 ∷ [])))
        (Answers-push caller old.front now.front front' (items_of p.given) p.replies (item_of next.0) replied.0 p.answers replied.1)

    -- its reply was written
    pub served_more : (outgoing' : Outgoing) → Writes text now.outgoing outgoing' → outgoing'.faults ≡ now.outgoing.faults
        → HasServedLines caller limit may' reader' old (record { front = front'; incoming = incoming'; outgoing = outgoing' })
    served_more outgoing' writes stay = record {
      taken = p.taken ++ a.bytes;
      takes = takes_all;
      count = omega (arith, p.count, a.count, length-append p.taken a.bytes);
      given = lines_now;
      has_given = has_given_now;
      knows_end = a.knows_end p.knows_end;
      replies = p.replies ++ replied.0 ∷ [];
      answers = answers_all;
      writes = subst (λ (bs : List ℕ). Writes bs old.outgoing outgoing') (ap (λ bs. texts p.replies ++ bs) replied.2 ∙ sym (texts-push p.replies replied.0))
          (Appends-trans old.outgoing.written now.outgoing.written outgoing'.written (texts p.replies) text p.writes writes);
      reads_stay = a.faults ∙ p.reads_stay;
      writes_stay = stay ∙ p.writes_stay;
    }

    -- a write of its reply failed
    module _ (outgoing' : Outgoing) (part : WritesPart text now.outgoing outgoing') where
      written_now : List ℕ
      written_now = texts p.replies ++ take part.count text

      some_of : (others : List (List ℕ)) → lines (p.taken ++ a.bytes) true ≡ lines_now ++ others
          → AnswersSome caller old.front front' (items (p.taken ++ a.bytes) true) written_now
      unfolding written_now
      some_of others all = record {
        first = items_of lines_now;
        others = items_of others;
        asked_are = ap items_of all ∙ map-append item_of lines_now others;
        replies = p.replies ++ replied.0 ∷ [];
        answers = answers_all;
        text = record {
          first = p.replies;
          last = replied.0;
          replies_are = refl;
          count = part.count;
          proper = subst (λ (bs : List ℕ). part.count < length bs) replied.2 part.proper;
          text = ap (λ bs. texts p.replies ++ take part.count bs) replied.2;
        };
      }

      -- so the session is over
      pub serves_part : outgoing'.faults ≡ raised now.outgoing.faults
          → Serves caller limit old (record { front = front'; incoming = incoming'; outgoing = outgoing' }) end_of.WriteFault
      unfolding written_now lines_now some_of
      serves_part rose =
          let all = given_first reader' (p.taken ++ a.bytes) lines_now has_given_now in
          record {
            taken = p.taken ++ a.bytes;
            takes = takes_all;
            written = written_now;
            writes = Appends-trans old.outgoing.written now.outgoing.written outgoing'.written (texts p.replies) (take part.count text) p.writes part.writes;
            session = some_of all.0 all.1;
            faults = record { reads = a.faults ∙ p.reads_stay; writes = rose ∙ ap raised p.writes_stay };
            within = omega (arith, p.count, a.count, length-append p.taken a.bytes);
            leaves = λ more.
                let ended = last_ended reader' (p.taken ++ a.bytes) lines_now has_given_now (subst (λ n. length (lines (p.taken ++ a.bytes) false) < n) (length-map lines_now item_of) more) in
                let knows = a.knows_end p.knows_end ended in
                (knows.0, omega (arith, p.count, a.count, length-append p.taken a.bytes, knows.1));
          }

  -- no further line was given, and all that was taken holds no other
  answered : (end : End) (e : EndsNext limit reader reader' now.incoming incoming' may may' now.front front' end) (ended : Bool)
      → lines (p.taken ++ e.bytes) ended ≡ p.given → AnswersAll caller old.front front' (items (p.taken ++ e.bytes) ended) (texts p.replies)
  answered end e ended all = record {
    replies = p.replies;
    answers = subst (λ (f : List Event). Answers caller old.front (items (p.taken ++ e.bytes) ended) p.replies f) (sym e.same)
        (subst (λ (ls : List (List ℕ)). Answers caller old.front (items_of ls) p.replies now.front) (sym all) p.answers);
    text = refl;
  }

  abbrev IsOver : End → Type 0
  IsOver end = Serves caller limit old (record { front = front'; incoming = incoming'; outgoing = now.outgoing }) end

  over : (end : End) (e : EndsNext limit reader reader' now.incoming incoming' may may' now.front front' end) → is_write_fault end ≡ false
      → (session : Session caller old.front front' (p.taken ++ e.bytes) (texts p.replies) end) → IsWithin limit (length (p.taken ++ e.bytes)) end
      → Leaves caller limit old (record { front = front'; incoming = incoming'; outgoing = now.outgoing }) (p.taken ++ e.bytes) (texts p.replies) end session
      → IsOver end
  over end e no_write session within leaves = record {
    taken = p.taken ++ e.bytes;
    takes = Takes-trans old.incoming now.incoming incoming' p.taken e.bytes p.takes e.takes;
    written = texts p.replies;
    writes = p.writes;
    session = session;
    faults = record { reads = e.faults ∙ ap (counted (is_read_fault end)) p.reads_stay; writes = rw no_write p.writes_stay };
    within = within;
    leaves = leaves;
  }

  -- so the session is over
  pub serves_end : (end : End) → EndsNext limit reader reader' now.incoming incoming' may may' now.front front' end → IsOver end
  serves_end end_of.Done e =
      let ends = e.ends p.taken p.given p.has_given in
      let knows = e.knows_end p.knows_end ends.1 in
      over end_of.Done e refl (answered end_of.Done e true ends.0) (omega (arith, p.count, e.count, length-append p.taken e.bytes, knows.1)) knows.0
  serves_end end_of.ReadFault e =
      let ends = e.ends p.taken p.given p.has_given in
      over end_of.ReadFault e refl (answered end_of.ReadFault e false ends.0) (omega (arith, p.count, e.count, length-append p.taken e.bytes, ends.1)) tt
  serves_end (end_of.ByteLimit told) e =
      let ends = e.ends p.taken p.given p.has_given in
      let full : length (p.taken ++ e.bytes) ≡ limit = omega (arith, p.count, e.count, length-append p.taken e.bytes, ends.1) in
      over (end_of.ByteLimit told) e refl (full ∙ sym ends.2, answered (end_of.ByteLimit told) e false ends.0) (ends.2, full) tt
  serves_end end_of.WriteFault e = absurd (e.ends p.taken p.given p.has_given)
  serves_end end_of.Memory e = absurd (e.ends p.taken p.given p.has_given)
