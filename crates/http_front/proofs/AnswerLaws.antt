-- How a request is answered, by its route.
use Rattle.std.proofs.Common.{◌≡◌, ℕ, ◌≤◌, Bool, true, false, List, [], Option, Some, None, option_and_then, option_map, length, refl, sym, ap, ◌∙◌, subst, inl, inr, arith, length-append}
use Rattle.std.specs.Option.{option_map_or}
use Rattle.std.specs.Str.{IsUtf8, is_utf8}
use Rattle.std.proofs.lemmas.Str.{IsUtf8-from_is_utf8, is_utf8-from_IsUtf8}
use Rattle.funnel_model.specs.declared.call.Call.{Call}
use Rattle.funnel_model.specs.declared.call.Call.TheVariants as call
use Rattle.funnel_model.specs.declared.event.Event.{Event}
use Rattle.funnel_model.specs.declared.reply.Reply.{Reply}
use Rattle.funnel_model.specs.declared.reply.Reply.TheVariants as reply
use Rattle.httparse.specs.Spans.{span_bytes}
use Rattle.httparse.proofs.GrammarLemmas.{print_request-append}
use Rattle.json.specs.Json.{Json, document}
use Rattle.line_proto.specs.Forms.{Asked, Calls, Searches, Tunes, Told, ByQuery}
use Rattle.line_proto.specs.Services.{AnswersAsked, Caller}
use Rattle.http_front.specs.Documents.{add_of, document_of, text_of_body}
use Rattle.http_front.specs.Entries.{Asks, Entry, IsRefusedAtHead, Refused, cause_of, entry_by, found_by, asked_by, is_last, shape_of}
use Rattle.http_front.specs.Heads.{closes}
use Rattle.http_front.specs.Queries.{as_text, decoded, plain, text_of_value}
use Rattle.http_front.specs.Routes.{Add, Find, Put, Query, Route, Tune, route_of}
use Rattle.http_front.specs.Sessions.{Exchanges, HasBody}
use Rattle.http_front.specs.Steps.{AnswersFrame, AnswersRoute, IsRequest}
use Rattle.http_front.specs.declared.cause.Cause.{Cause}
use Rattle.http_front.specs.declared.cause.Cause.TheVariants as cause
use Rattle.http_front.specs.declared.framing.Parts.{Parts}
use Rattle.http_front.specs.declared.outcome.Outcome.{Outcome}
use Rattle.http_front.specs.declared.outcome.Outcome.TheVariants as outcome
use Rattle.http_front.specs.declared.outcome.Shape.{Shape}
use Rattle.http_front.specs.declared.outcome.Shape.TheVariants as shape
use Rattle.http_front.proofs.DocumentLaws.{asks_of_two}
use Rattle.http_front.proofs.KeyLaws.{route_fits, value_length}

-- a document asks for an add
of_option : (closing : Bool) (o : Option Json) (asked : Call) → option_and_then add_of o ≡ Some asked → HasBody (Asks (Calls asked) shape.Object closing)
of_option closing None asked is = absurd (cc)
of_option closing (Some j) asked is = subst (λ (a : Call). HasBody (Asks (Calls a) shape.Object closing)) (sym (asks_of_two j asked is).2) tt

of_document : (body : List ℕ) (closing : Bool) (b : Bool) (asked : Call) → is_utf8 body ≡ b → document_of body ≡ Some asked → HasBody (Asks (Calls asked) shape.Object closing)
unfolding document_of
of_document body closing true asked text is = of_option closing (document body) asked (rw text at is)
of_document body closing false asked text is = let none : None ≡ Some asked = rw text at is in absurd (cc)

-- and a body that is none is refused
add_entry : (body : List ℕ) (closing : Bool) (o : Option Call) → document_of body ≡ o
    → HasBody (option_map_or (λ (asked : Asked). Asks asked shape.Object closing) (option_map Calls o) (Refused cause.Body closing))
add_entry body closing None is = tt
add_entry body closing (Some asked) is = of_document body closing (is_utf8 body) asked refl is

-- so it is with a text that is put
put_entry : (id : ℕ) (closing : Bool) (o : Option (List ℕ))
    → HasBody (option_map_or (λ (asked : Asked). Asks asked shape.Object closing) (option_map (λ (text : List ℕ). Calls (call.Put id text)) o) (Refused cause.Body closing))
put_entry id closing None = tt
put_entry id closing (Some text) = tt

-- no memory was found for the body
pub add_lacks_memory : (caller : Caller) (front : List Event) (body : List ℕ) → AnswersRoute Add body caller front (outcome.Replied shape.Object reply.Memory) front
add_lacks_memory caller front body closing = inr (record { post = add_entry body closing (document_of body) refl; told = refl; same = refl })

pub put_lacks_memory : (caller : Caller) (front : List Event) (id : ℕ) (body : List ℕ) → AnswersRoute (Put id) body caller front (outcome.Replied shape.Object reply.Memory) front
put_lacks_memory caller front id body closing = inr (record { post = put_entry id closing (text_of_body body); told = refl; same = refl })

-- what is asked by bytes that stand for something is answered, or they stand for nothing and the request is refused
module _ (caller : Caller) (before : List Event) (f : List ℕ → Asked) (why : Cause) (closing : Bool) where
  abbrev entry_with : Option (List ℕ) → Entry
  entry_with o = option_map_or (λ (asked : Asked). Asks asked shape.Object closing) (option_map f o) (Refused why closing)

  asks_with : (after : List Event) (o : Option (List ℕ)) (text : List ℕ) (given : Reply) → o ≡ Some text → AnswersAsked caller before after (f text) given
      → Exchanges caller before (record { entry = entry_with o; told = outcome.Replied shape.Object given }) after
  asks_with after o text given is answers =
      subst (λ (p : Option (List ℕ)). Exchanges caller before (record { entry = entry_with p; told = outcome.Replied shape.Object given }) after) (sym is) (inl (given, refl, answers))

  asks_none : (o : Option (List ℕ)) → o ≡ None → Exchanges caller before (record { entry = entry_with o; told = outcome.Refused why }) before
  asks_none o is =
      subst (λ (p : Option (List ℕ)). Exchanges caller before (record { entry = entry_with p; told = outcome.Refused why }) before) (sym is) (inl (refl, refl))

-- bytes that are text, and others
is_text : (bytes : List ℕ) → IsUtf8 bytes → as_text bytes ≡ Some bytes
is_text bytes text = rw (is_utf8-from_IsUtf8 bytes text) refl

not_text : (bytes : List ℕ) (b : Bool) → is_utf8 bytes ≡ b → ¬ (IsUtf8 bytes) → as_text bytes ≡ None
not_text bytes true is other = absurd (other (IsUtf8-from_is_utf8 bytes is))
not_text bytes false is other = rw is refl

value_text : (value text : List ℕ) → decoded plain value ≡ Some text → IsUtf8 text → text_of_value value ≡ Some text
value_text value text is utf8 = ap (option_and_then as_text) is ∙ is_text text utf8

value_none : (value text : List ℕ) → decoded plain value ≡ Some text → ¬ (IsUtf8 text) → text_of_value value ≡ None
value_none value text is other = ap (option_and_then as_text) is ∙ not_text text (is_utf8 text) refl other

undecoded : (value : List ℕ) → decoded plain value ≡ None → text_of_value value ≡ None
undecoded value is = ap (option_and_then as_text) is

-- a find by a value
pub asks_find : (caller : Caller) (before after : List Event) (told : Told) (value text body : List ℕ) (given : Reply) → decoded plain value ≡ Some text → IsUtf8 text
    → AnswersAsked caller before after (found_by told text) given → AnswersRoute (Find told value) body caller before (outcome.Replied shape.Object given) after
asks_find caller before after told value text body given is utf8 answers closing =
    asks_with caller before (found_by told) cause.Query closing after (text_of_value value) text given (value_text value text is utf8) answers

pub asks_no_find : (caller : Caller) (front : List Event) (told : Told) (value text body : List ℕ) → decoded plain value ≡ Some text → ¬ (IsUtf8 text)
    → AnswersRoute (Find told value) body caller front (outcome.Refused cause.Query) front
asks_no_find caller front told value text body is other closing =
    asks_none caller front (found_by told) cause.Query closing (text_of_value value) (value_none value text is other)

pub no_find : (caller : Caller) (front : List Event) (told : Told) (value body : List ℕ) → decoded plain value ≡ None
    → AnswersRoute (Find told value) body caller front (outcome.Refused cause.Query) front
no_find caller front told value body is closing = asks_none caller front (found_by told) cause.Query closing (text_of_value value) (undecoded value is)

-- and a query by one
pub asks_query : (caller : Caller) (before after : List Event) (told : Told) (value text body : List ℕ) (given : Reply) → decoded plain value ≡ Some text → IsUtf8 text
    → AnswersAsked caller before after (Searches told (ByQuery text)) given → AnswersRoute (Query told value) body caller before (outcome.Replied shape.Object given) after
asks_query caller before after told value text body given is utf8 answers closing =
    asks_with caller before (λ (t : List ℕ). Searches told (ByQuery t)) cause.Query closing after (text_of_value value) text given (value_text value text is utf8) answers

pub asks_no_query : (caller : Caller) (front : List Event) (told : Told) (value text body : List ℕ) → decoded plain value ≡ Some text → ¬ (IsUtf8 text)
    → AnswersRoute (Query told value) body caller front (outcome.Refused cause.Query) front
asks_no_query caller front told value text body is other closing =
    asks_none caller front (λ (t : List ℕ). Searches told (ByQuery t)) cause.Query closing (text_of_value value) (value_none value text is other)

pub no_query : (caller : Caller) (front : List Event) (told : Told) (value body : List ℕ) → decoded plain value ≡ None
    → AnswersRoute (Query told value) body caller front (outcome.Refused cause.Query) front
no_query caller front told value body is closing =
    asks_none caller front (λ (t : List ℕ). Searches told (ByQuery t)) cause.Query closing (text_of_value value) (undecoded value is)

-- a put by the text of a body
pub asks_put : (caller : Caller) (before after : List Event) (id : ℕ) (body text : List ℕ) (given : Reply) → text_of_body body ≡ Some text
    → AnswersAsked caller before after (Calls (call.Put id text)) given → AnswersRoute (Put id) body caller before (outcome.Replied shape.Object given) after
asks_put caller before after id body text given is answers closing =
    asks_with caller before (λ (t : List ℕ). Calls (call.Put id t)) cause.Body closing after (text_of_body body) text given is answers

pub asks_no_put : (caller : Caller) (front : List Event) (id : ℕ) (body : List ℕ) → text_of_body body ≡ None
    → AnswersRoute (Put id) body caller front (outcome.Refused cause.Body) front
asks_no_put caller front id body is closing = asks_none caller front (λ (t : List ℕ). Calls (call.Put id t)) cause.Body closing (text_of_body body) is

-- and a tuning by a body
pub asks_tune : (caller : Caller) (before after : List Event) (body : List ℕ) (given : Reply) → IsUtf8 body
    → AnswersAsked caller before after (Tunes body) given → AnswersRoute Tune body caller before (outcome.Replied shape.Object given) after
asks_tune caller before after body given text answers closing =
    asks_with caller before Tunes cause.Text closing after (as_text body) body given (is_text body text) answers

pub asks_no_tune : (caller : Caller) (front : List Event) (body : List ℕ) → ¬ (IsUtf8 body) → AnswersRoute Tune body caller front (outcome.Refused cause.Text) front
asks_no_tune caller front body other closing = asks_none caller front Tunes cause.Text closing (as_text body) (not_text body (is_utf8 body) refl other)

last_route : (form : Shape) (why : Cause) (closing : Bool) (o : Option Asked) → is_last (option_map_or (λ (asked : Asked). Asks asked form closing) o (Refused why closing)) ≡ closing
last_route form why closing None = refl
last_route form why closing (Some asked) = refl

-- a whole request of a route is answered
pub routed : (caller : Caller) (before after : List Event) (bytes : List ℕ) (parts : Parts) (route : Route) (told : Outcome) → IsRequest bytes parts
    → route_of (span_bytes bytes parts.method) (span_bytes bytes parts.target) ≡ Some route → AnswersRoute route (span_bytes bytes parts.body) caller before told after
    → AnswersFrame bytes parts.body.end parts.closes caller before told after
routed caller before after bytes parts route told whole matches answers =
    let has : route_of whole.head.method whole.head.target ≡ Some route = rw (whole.method, whole.target) at matches in
    record {
      entry = entry_by route whole.body parts.closes;
      reads = inl (record {
        head = whole.head;
        body = whole.body;
        whole = whole.request;
        is = ap (entry_by route whole.body) whole.closes
            ∙ ap (λ (o : Option Route). option_map_or (λ (r : Route). entry_by r whole.body (closes whole.head)) o (Refused cause.Route (closes whole.head))) (sym has);
      });
      last = last_route (shape_of route) (cause_of route) parts.closes (asked_by route whole.body);
      answers = (subst (λ (body : List ℕ). AnswersRoute route body caller before told after) whole.body_is answers) parts.closes;
    }

-- and one without a route is refused
pub unrouted : (caller : Caller) (front : List Event) (bytes : List ℕ) (parts : Parts) → IsRequest bytes parts
    → route_of (span_bytes bytes parts.method) (span_bytes bytes parts.target) ≡ None → AnswersFrame bytes parts.body.end parts.closes caller front (outcome.Refused cause.Route) front
unrouted caller front bytes parts whole none =
    let has : route_of whole.head.method whole.head.target ≡ None = rw (whole.method, whole.target) at none in
    record {
      entry = Refused cause.Route parts.closes;
      reads = inl (record {
        head = whole.head;
        body = whole.body;
        whole = whole.request;
        is = ap (Refused cause.Route) whole.closes
            ∙ ap (λ (o : Option Route). option_map_or (λ (r : Route). entry_by r whole.body (closes whole.head)) o (Refused cause.Route (closes whole.head))) (sym has);
      });
      last = refl;
      answers = inl (refl, refl);
    }

-- a target is shorter than a head
target_fits : (bytes : List ℕ) (parts : Parts) → IsRequest bytes parts → length (span_bytes bytes parts.target) ≤ 16384
target_fits bytes parts whole =
    omega (
      arith,
      ap length whole.target,
      whole.request.begins.short,
      ap length (print_request-append whole.head []),
      length-append {A = ℕ},
    )

-- and so is the text that it has for a search
pub value_fits : (bytes : List ℕ) (parts : Parts) (route : Route) → IsRequest bytes parts
    → route_of (span_bytes bytes parts.method) (span_bytes bytes parts.target) ≡ Some route → value_length route ≤ 16384
value_fits bytes parts route whole matches =
    omega (arith, target_fits bytes parts whole, route_fits (span_bytes bytes parts.method) (span_bytes bytes parts.target) route matches)

-- a head that is refused is told so, and the connection is closed
pub refused : (caller : Caller) (front : List Event) (bytes : List ℕ) (why : Cause) → IsRefusedAtHead bytes why → AnswersFrame bytes 0 true caller front (outcome.Refused why) front
refused caller front bytes why is = record {
  entry = Refused why true;
  reads = inr (record { why = why; refused = is; is = refl });
  last = refl;
  answers = inl (refl, refl);
}
