-- The requests of the bytes of a connection.
use Rattle.std.specs.Prelude.{◌≡◌, ◌≢◌, ◌<◌, ◌⊎◌, ℕ, Bool, true, List, [], ◌∷◌, Option, Some, None, option_map}
use Rattle.std.specs.List.{list_any}
use Rattle.std.specs.Option.{option_map_or}
use Rattle.funnel_model.specs.declared.call.Call.TheVariants as call
use Rattle.httparse.specs.Grammar.{RequestHead}
use Rattle.line_proto.specs.Forms.{Asked, Calls, Searches, Tunes, Told, Ids, ByQuery, ByWords}
use Rattle.http_front.specs.Heads.{HasHead, HasRequest, IsBadHead, closes, codings, fields_of, length_said, lengths}
use Rattle.http_front.specs.Routes.{Route, Add, Put, Get, Delete, Find, Query, Place, Stats, Metrics, Journal, Recycle, Tune, route_of}
use Rattle.http_front.specs.Documents.{document_of, text_of_body}
use Rattle.http_front.specs.Queries.{as_text, text_of_value}
use Rattle.http_front.specs.declared.cause.Cause.{Cause}
use Rattle.http_front.specs.declared.cause.Cause.TheVariants as cause
use Rattle.http_front.specs.declared.framing.TheConstants.{MAX_BODY}
use Rattle.http_front.specs.declared.outcome.Shape.{Shape}
use Rattle.http_front.specs.declared.outcome.Shape.TheVariants as shape

-- a whole request with what its route asks for and how the reply is written, or a refusal, which asks for nothing; and whether the response
-- closes the connection
pub data Entry : Type 0 where
  Asks : Asked → Shape → Bool → Entry
  Refused : Cause → Bool → Entry

-- the response to the entry closes the connection
abbrev pub is_last : Entry → Bool
is_last (Asks asked form closing) = closing
is_last (Refused why closing) = closing

-- a find of all by words is the find itself; other words are sought by a search
abbrev pub found_by : Told → List ℕ → Asked
found_by Ids text = Calls (call.Find text)
found_by told text = Searches told (ByWords text)

-- what a request of a route asks for, with this body
abbrev pub asked_by : Route → List ℕ → Option Asked
asked_by Add body = option_map Calls (document_of body)
asked_by (Put id) body = option_map (λ text. Calls (call.Put id text)) (text_of_body body)
asked_by (Get id) body = Some (Calls (call.Get id))
asked_by (Delete id) body = Some (Calls (call.Delete id))
asked_by (Find told value) body = option_map (found_by told) (text_of_value value)
asked_by (Query told value) body = option_map (λ text. Searches told (ByQuery text)) (text_of_value value)
asked_by Place body = Some (Calls call.Place)
asked_by Stats body = Some (Calls call.Stats)
asked_by Metrics body = Some (Calls call.Stats)
asked_by (Journal from) body = Some (Calls (call.Journal from))
asked_by Recycle body = Some (Calls call.Recycle)
asked_by Tune body = option_map Tunes (as_text body)

-- how the reply to a request of a route is written
abbrev pub shape_of : Route → Shape
shape_of (Get id) = shape.Document id
shape_of Metrics = shape.Metrics
shape_of _ = shape.Object

-- the cause for which a request of a route is refused that asks for nothing
abbrev pub cause_of : Route → Cause
cause_of (Find told value) = cause.Query
cause_of (Query told value) = cause.Query
cause_of Tune = cause.Text
cause_of _ = cause.Body

-- the entry of a request of a route
abbrev pub entry_by : Route → List ℕ → Bool → Entry
entry_by route body closing = option_map_or (λ asked. Asks asked (shape_of route) closing) (asked_by route body) (Refused (cause_of route) closing)

-- the entry of a whole request, which is refused where it has no route
abbrev pub entry_of : RequestHead → List ℕ → Entry
entry_of head body = option_map_or (λ route. entry_by route body (closes head)) (route_of head.method head.target) (Refused cause.Route (closes head))

-- a whole request begins the bytes, of which this is the entry, and then comes the rest
pub record IsWhole (bytes : List ℕ) (entry : Entry) (rest : List ℕ) : Type 0 where
  pub head : RequestHead
  pub body : List ℕ
  pub whole : HasRequest bytes head body rest
  pub is : entry ≡ entry_of head body

-- a body is refused for this cause by the fields of its head: it is sent in a coding, its Content-Length is no number or is there more than
-- once, or it is too long
abbrev pub HasBadBody : List (List ℕ × List ℕ) → Cause → Type 0
HasBadBody fields cause.Coding = codings fields ≢ []
HasBadBody fields cause.Length = (codings fields ≡ []) × (length_said (lengths fields) ≡ None)
HasBadBody fields cause.Long = (codings fields ≡ []) × (count : ℕ) × (length_said (lengths fields) ≡ Some count) × (MAX_BODY < count)
HasBadBody fields _ = ⊥

-- the bytes begin with no head, or with one that is refused whatever its body is, for this cause
abbrev pub IsRefusedAtHead : List ℕ → Cause → Type 0
IsRefusedAtHead bytes cause.Head = IsBadHead bytes
IsRefusedAtHead bytes why = (head : RequestHead) × (after : List ℕ) × HasHead bytes head after × HasBadBody (fields_of head) why

-- such bytes have this entry, whose response closes the connection
pub record IsCut (bytes : List ℕ) (entry : Entry) : Type 0 where
  pub why : Cause
  pub refused : IsRefusedAtHead bytes why
  pub is : entry ≡ Refused why true

-- the entry begins the bytes, and then comes the rest, of which nothing is said where the response closes before the body
abbrev pub ReadsEntry : List ℕ → Entry → List ℕ → Type 0
ReadsEntry bytes entry rest = IsWhole bytes entry rest ⊎ IsCut bytes entry

-- nothing that is answered begins the bytes: a head or a body isn't whole yet
abbrev pub HasNoEntry : List ℕ → Type 0
HasNoEntry bytes = (entry : Entry) (rest : List ℕ) → ReadsEntry bytes entry rest → ⊥

-- these entries begin the bytes, in order, and then comes the rest; none comes after one whose response closes
abbrev pub BeginsWith : List ℕ → List Entry → List ℕ → Type 0
BeginsWith bytes [] rest = bytes ≡ rest
BeginsWith bytes (entry ∷ others) rest =
    (middle : List ℕ) × ReadsEntry bytes entry middle × (is_last entry ≡ true → others ≡ []) × BeginsWith middle others rest

-- the entries are all requests of the bytes: the last response closes, or no further one begins the rest
pub record AreRequests (bytes : List ℕ) (entries : List Entry) : Type 0 where
  pub rest : List ℕ
  pub begin : BeginsWith bytes entries rest
  pub all : (list_any is_last entries ≡ true) ⊎ HasNoEntry rest
