-- What a connection writes for the bytes that it takes.
use Rattle.std.specs.Prelude.{◌≡◌, ◌<◌, ◌⊎◌, ⊤, ℕ, true, false, List, [], ◌∷◌, ◌++◌, length, map, take}
use Rattle.std.specs.List.{flat_map, list_any}
use Rattle.funnel_io.specs.declared.end.End.{End}
use Rattle.funnel_io.specs.declared.end.End.TheVariants as end_of
use Rattle.funnel_model.specs.declared.call.Call.TheVariants as call
use Rattle.funnel_model.specs.declared.event.Event.{Event}
use Rattle.funnel_model.specs.declared.reply.Reply.{Reply}
use Rattle.funnel_model.specs.declared.reply.Reply.TheVariants as reply
use Rattle.line_proto.specs.Forms.{Calls}
use Rattle.line_proto.specs.Services.{AnswersAsked, Caller}
use Rattle.http_front.specs.Entries.{AreRequests, BeginsWith, Entry, Asks, Refused, is_last}
use Rattle.http_front.specs.Responses.{text_of}
use Rattle.http_front.specs.declared.cause.Cause.TheVariants as cause
use Rattle.http_front.specs.declared.outcome.Outcome.{Outcome}
use Rattle.http_front.specs.declared.outcome.Outcome.TheVariants as outcome
use Rattle.http_front.specs.declared.outcome.Shape.TheVariants as shape

-- an entry, and what its response tells
pub record Exchange : Type 0 where
  pub entry : Entry
  pub told : Outcome

-- the entry is one whose body is read as JSON, to an add or a put or to neither
abbrev pub HasBody : Entry → Type 0
HasBody (Asks (Calls (call.Add id text)) form closing) = ⊤
HasBody (Asks (Calls (call.Put id text)) form closing) = ⊤
HasBody (Refused cause.Body closing) = ⊤
HasBody _ = ⊥

-- no memory was found for such a body before its call, which isn't made
pub record LacksMemory (before after : List Event) (exchange : Exchange) : Type 0 where
  pub post : HasBody exchange.entry
  pub told : exchange.told ≡ outcome.Replied shape.Object reply.Memory
  pub same : before ≡ after

-- what an entry asks for is answered from front to front; a refusal is told, and makes no step
abbrev pub AnswersEntry : Caller → List Event → Entry → Outcome → List Event → Type 0
AnswersEntry caller before (Asks asked form closing) told after =
    (given : Reply) × (told ≡ outcome.Replied form given) × AnswersAsked caller before after asked given
AnswersEntry caller before (Refused why closing) told after = (told ≡ outcome.Refused why) × (before ≡ after)

-- the exchange leads from front to front
abbrev pub Exchanges : Caller → List Event → Exchange → List Event → Type 0
Exchanges caller before exchange after = AnswersEntry caller before exchange.entry exchange.told after ⊎ LacksMemory before after exchange

-- the exchanges lead from front to front, in order
abbrev pub Answers : Caller → List Event → List Exchange → List Event → Type 0
Answers caller before [] after = before ≡ after
Answers caller before (exchange ∷ others) after = (middle : List Event) × Exchanges caller before exchange middle × Answers caller middle others after

-- the response of an exchange, and the responses of exchanges in their order
abbrev pub response_of : Exchange → List ℕ
response_of exchange = text_of (is_last exchange.entry) exchange.told

abbrev pub responses : List Exchange → List ℕ
responses exchanges = flat_map response_of exchanges

-- the entries of exchanges
abbrev pub entries_of : List Exchange → List Entry
entries_of exchanges = map (λ (exchange : Exchange). exchange.entry) exchanges

-- one of the responses closes the connection
abbrev pub Closes : List Exchange → Type 0
Closes exchanges = list_any is_last (entries_of exchanges) ≡ true

-- every request of the bytes is answered, and the responses are written
pub record AnswersAll (caller : Caller) (before after : List Event) (bytes written : List ℕ) : Type 0 where
  pub exchanges : List Exchange
  pub requests : AreRequests bytes (entries_of exchanges)
  pub answers : Answers caller before exchanges after
  pub text : written ≡ responses exchanges

-- and none of the responses closes the connection
pub record AnswersOpen (caller : Caller) (before after : List Event) (bytes written : List ℕ) : Type 0 where
  pub all : AnswersAll caller before after bytes written
  pub none_closes : list_any is_last (entries_of all.exchanges) ≡ false

-- only the first requests of the bytes are answered, and a write of the last one's response failed
pub record AnswersSome (caller : Caller) (before after : List Event) (bytes written : List ℕ) : Type 0 where
  pub first : List Exchange
  pub last : Exchange
  pub rest : List ℕ
  pub begin : BeginsWith bytes (entries_of (first ++ last ∷ [])) rest
  pub answers : Answers caller before (first ++ last ∷ []) after
  pub count : ℕ
  pub proper : count < length (response_of last)
  pub text : written ≡ responses first ++ take count (response_of last)

-- what a connection takes and writes, by how it ends, and the fronts of its pass before and after it
abbrev pub Session : Caller → List Event → List Event → List ℕ → List ℕ → End → Type 0
Session caller before after taken written end_of.Done = AnswersAll caller before after taken written
Session caller before after taken written end_of.ReadFault = AnswersOpen caller before after taken written
Session caller before after taken written (end_of.ByteLimit limit) = (length taken ≡ limit) × AnswersOpen caller before after taken written
Session caller before after taken written end_of.WriteFault = AnswersSome caller before after taken written
Session caller before after taken written end_of.Memory = (taken ≡ []) × (written ≡ []) × (after ≡ before)
