-- How far a connection has come, for the clauses of functions that are not public.
use Rattle.std.specs.Prelude.{◌≡◌, ◌+◌, ◌<◌, ◌≤◌, ◌⊎◌, ℕ, Bool, true, false, List, [], ◌∷◌, ◌++◌, length, drop, Some, All, map, codes, ◌&&◌, ◌||◌, ◌==◌}
use Rattle.std.specs.Io.KnownBytes.{IsAtEnd}
use Rattle.std.specs.List.{list_any}
use Rattle.std.specs.Str.{str_eq_ignore_ascii_case}
use Rattle.funnel_io.specs.Counts.{counted}
use Rattle.funnel_io.specs.Streams.{Incoming, Takes, Writes}
use Rattle.funnel_io.specs.declared.end.End.{End}
use Rattle.funnel_io.specs.declared.end.End.TheVariants as end_of
use Rattle.funnel_model.specs.declared.event.Event.{Event}
use Rattle.funnel_model.specs.declared.reply.Reply.TheVariants as reply
use Rattle.httparse.specs.Grammar.{LineEnd, ReadsRequest, RequestHead, print_end, print_request}
use Rattle.httparse.specs.Spans.{IsHeaderWithin, IsWithin, header_bytes, span_bytes}
use Rattle.httparse.specs.declared.spans.HeaderSpan.{HeaderSpan}
use Rattle.httparse.specs.declared.spans.RequestSpans.{RequestSpans}
use Rattle.line_proto.specs.Services.{Caller}
use Rattle.session.specs.Ends.{Stand, is_read_fault}
use Rattle.http_front.specs.Entries.{BeginsWith, Entry, HasBadBody, HasNoEntry, IsRefusedAtHead, ReadsEntry, entry_by, is_last}
use Rattle.http_front.specs.Heads.{HasRequest, closes, closes_by, codings, connections, fields_of, has_close, length_said, lengths}
use Rattle.http_front.specs.Responses.{is_long, text_of}
use Rattle.http_front.specs.Routes.{Route}
use Rattle.http_front.specs.Sessions.{Answers, Exchange, Exchanges, entries_of, responses}
use Rattle.http_front.specs.declared.buffer.TheConstants.{CAPACITY, LONGEST}
use Rattle.http_front.specs.declared.cause.Cause.{Cause}
use Rattle.http_front.specs.declared.cause.Cause.TheVariants as cause
use Rattle.http_front.specs.declared.fields.Values.{Values}
use Rattle.http_front.specs.declared.fields.Values.TheVariants as values
use Rattle.http_front.specs.declared.framing.TheConstants.{MAX_BODY, MAX_FIELDS, MAX_HEAD}
use Rattle.http_front.specs.declared.framing.Frame.{Frame}
use Rattle.http_front.specs.declared.framing.Frame.TheVariants as frame
use Rattle.http_front.specs.declared.framing.Parts.{Parts}
use Rattle.http_front.specs.declared.framing.Seen.{Seen}
use Rattle.http_front.specs.declared.framing.Seen.TheVariants as seen
use Rattle.http_front.specs.declared.outcome.Outcome.{Outcome}
use Rattle.http_front.specs.declared.outcome.Outcome.TheVariants as outcome
use Rattle.http_front.specs.declared.outcome.Shape.TheVariants as shape

-- the bytes that a buffer holds, and how many more fit behind them
pub record Held : Type 0 where
  pub bytes : List ℕ
  pub room : ℕ

-- where the bytes stand in the buffer
pub record IsInPlace (room : List ℕ) (start end : ℕ) : Type 0 where
  pub size : length room ≡ CAPACITY
  pub in_order : start ≤ end
  pub within : end ≤ length room

-- these are the values: none, the one that the span covers, or several
abbrev pub AreValues : List ℕ → Values → List (List ℕ) → Type 0
AreValues bytes values.None found = found ≡ []
AreValues bytes (values.One span) found = IsWithin (length bytes) span × (found ≡ span_bytes bytes span ∷ [])
AreValues bytes values.Many found = (first : List ℕ) × (second : List ℕ) × (others : List (List ℕ)) × (found ≡ first ∷ second ∷ others)

-- the field, given by its name and value, asks to close the connection
abbrev pub is_closing : List ℕ × List ℕ → Bool
is_closing field = str_eq_ignore_ascii_case field.0 (codes "connection") && has_close field.1

-- a whole request begins the bytes, and these are its parts
pub record IsRequest (bytes : List ℕ) (parts : Parts) : Type 0 where
  pub head : RequestHead
  pub body : List ℕ
  pub request : HasRequest bytes head body (drop parts.body.end bytes)
  pub method : span_bytes bytes parts.method ≡ head.method
  pub method_within : IsWithin (length bytes) parts.method
  pub target : span_bytes bytes parts.target ≡ head.target
  pub target_within : IsWithin (length bytes) parts.target
  pub body_is : span_bytes bytes parts.body ≡ body
  pub body_within : IsWithin (length bytes) parts.body
  pub some : 0 < parts.body.end
  pub closes : parts.closes ≡ closes head

-- what begins the bytes: a whole request, or a head that is refused
abbrev pub IsFrame : List ℕ → Frame → Type 0
IsFrame bytes (frame.Request parts) = IsRequest bytes parts
IsFrame bytes (frame.Refused why) = IsRefusedAtHead bytes why

-- these spans are those of a head that begins the bytes
pub record IsHeadAt (bytes : List ℕ) (fields : List HeaderSpan) (spans : RequestSpans) (head : RequestHead) : Type 0 where
  pub reads : ReadsRequest bytes head (drop spans.len bytes)
  pub len : spans.len ≡ length (print_request head)
  pub short : spans.len ≤ MAX_HEAD
  pub within : spans.len ≤ length bytes
  pub method : span_bytes bytes spans.method ≡ head.method
  pub method_within : IsWithin spans.len spans.method
  pub target : span_bytes bytes spans.path ≡ head.target
  pub target_within : IsWithin spans.len spans.path
  pub version : spans.version ≡ head.minor
  pub fields_are : map (header_bytes bytes) fields ≡ fields_of head
  pub fields_within : All (IsHeaderWithin (length bytes)) fields

abbrev pub HasHeadAt : List ℕ → List HeaderSpan → RequestSpans → Type 0
HasHeadAt bytes fields spans = (head : RequestHead) × IsHeadAt bytes fields spans head

-- a head with these fields is read, and this is the length of its body
pub record IsGoodHead (fields : List (List ℕ × List ℕ)) (count : ℕ) : Type 0 where
  pub few : length fields ≤ MAX_FIELDS
  pub plain : codings fields ≡ []
  pub said : length_said (lengths fields) ≡ Some count
  pub short : count ≤ MAX_BODY

-- the response to a request of this version and with these fields closes the connection
abbrev pub closes_with : ℕ → List (List ℕ × List ℕ) → Bool
closes_with version fields = (version == 0) || closes_by (connections fields)

-- a head with these fields is refused for this cause
abbrev pub IsRefusedByFields : List (List ℕ × List ℕ) → Cause → Type 0
IsRefusedByFields fields cause.Head = MAX_FIELDS < length fields
IsRefusedByFields fields why = (length fields ≤ MAX_FIELDS) × HasBadBody fields why

-- nothing that is answered begins the bytes, or they with others that are so few
pub record IsUndecided (bytes : List ℕ) (least : ℕ) : Type 0 where
  pub more : length bytes < least
  pub fits : least ≤ LONGEST
  pub none : (others : List ℕ) → length (bytes ++ others) < least → HasNoEntry (bytes ++ others)

-- what the bytes decide
abbrev pub IsSeen : List ℕ → Seen → Type 0
IsSeen bytes (seen.Frame frame) = IsFrame bytes frame
IsSeen bytes (seen.More least) = IsUndecided bytes least

-- a request of a route is answered from front to front
abbrev pub AnswersRoute : Route → List ℕ → Caller → List Event → Outcome → List Event → Type 0
AnswersRoute route body caller before told after =
    (closing : Bool) → Exchanges caller before (record { entry = entry_by route body closing; told = told }) after

-- an entry begins the bytes, which ends there and closes the connection or not, and is answered from front to front
pub record AnswersFrame (bytes : List ℕ) (len : ℕ) (closing : Bool) (caller : Caller) (before : List Event) (told : Outcome) (after : List Event) : Type 0 where
  pub entry : Entry
  pub reads : ReadsEntry bytes entry (drop len bytes)
  pub last : is_last entry ≡ closing
  pub answers : Exchanges caller before (record { entry = entry; told = told }) after

-- the text is the response, or that of a want of memory for a list
abbrev pub IsRendered : Bool → Outcome → List ℕ → Type 0
IsRendered closing told text =
    (text ≡ text_of closing told) ⊎ ((is_long told ≡ true) × (text ≡ text_of closing (outcome.Replied shape.Object reply.Memory)))

-- bytes were read, of the number that may be, and stand behind those that were held
pub record HasRead (before after : Incoming) (old new : List ℕ) (may may' : ℕ) : Type 0 where
  pub bytes : List ℕ
  pub takes : Takes bytes before after
  pub grown : new ≡ old ++ bytes
  pub count : may' + length bytes ≡ may

-- why no more is read: the source is at its end, a read failed, or no more may be read
abbrev pub IsStopped : End → Incoming → ℕ → ℕ → Type 0
IsStopped end_of.Done after may limit = IsAtEnd after.left × (0 < may)
IsStopped end_of.ReadFault after may limit = 0 < may
IsStopped (end_of.ByteLimit told) after may limit = (told ≡ limit) × (may ≡ 0)
IsStopped end_of.WriteFault after may limit = ⊥
IsStopped end_of.Memory after may limit = ⊥

-- bytes were read, and no more are read before those that are held decide what begins them
pub record StopsUndecided (Undecided : List ℕ → Type 0) (limit : ℕ) (end : End) (before after : Incoming) (old new : List ℕ) (may may' : ℕ) : Type 0 where
  pub read : HasRead before after old new may may'
  pub undecided : Undecided new
  pub stopped : IsStopped end after may' limit
  pub faults : after.faults ≡ counted (is_read_fault end) before.faults

-- the entries that begin the bytes were answered and their responses written, none of which closes; and no call failed
pub record HasServed (caller : Caller) (limit may : ℕ) (held : List ℕ) (old now : Stand) : Type 0 where
  pub taken : List ℕ
  pub takes : Takes taken old.incoming now.incoming
  pub count : may + length taken ≡ limit
  pub exchanges : List Exchange
  pub begin : BeginsWith taken (entries_of exchanges) held
  pub none_closes : list_any is_last (entries_of exchanges) ≡ false
  pub answers : Answers caller old.front exchanges now.front
  pub writes : Writes (responses exchanges) old.outgoing now.outgoing
  pub reads_stay : now.incoming.faults ≡ old.incoming.faults
  pub writes_stay : now.outgoing.faults ≡ old.outgoing.faults

-- the bytes begin with the end of a line
abbrev pub BeginsNewline : List ℕ → Type 0
BeginsNewline bytes = (end : LineEnd) × (rest : List ℕ) × (bytes ≡ print_end end ++ rest)
