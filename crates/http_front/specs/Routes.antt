-- The routes: what a method and a target ask for.
use Rattle.std.specs.Prelude.{ℕ, ◌==◌, ◌&&◌, Bool, true, false, not, List, [], ◌∷◌, take, drop, Option, Some, None, option_map, option_and_then, is_some, if◌then◌else◌, codes, bytes_eq}
use Rattle.std.specs.List.{before_first, after_first, slice_split}
use Rattle.std.specs.Str.{is_utf8}
use Rattle.line_proto.specs.Forms.{Told, Ids, Amount, Last, First, number_of}
use Rattle.http_front.specs.declared.keys.Amounts.{Amounts}
use Rattle.http_front.specs.declared.keys.Amounts.TheVariants as amounts
use Rattle.http_front.specs.declared.keys.Keys.{Keys as Parsed_Keys}
use Rattle.http_front.specs.declared.routing.Route.{Route as Parsed}
use Rattle.http_front.specs.declared.routing.Route.TheVariants as parsed

-- add the document of the body; put the text of the body at a number, tell the text there, or delete it; find by the words that a value stands
-- for, or by the boolean query; tell the place, the engine's numbers in either form, or the commits after so many; recycle; or tune by the body
pub data Route : Type 0 where
  Add : Route
  Put : ℕ → Route
  Get : ℕ → Route
  Delete : ℕ → Route
  Find : Told → List ℕ → Route
  Query : Told → List ℕ → Route
  Place : Route
  Stats : Route
  Metrics : Route
  Journal : ℕ → Route
  Recycle : Route
  Tune : Route

-- what the keys of a query string say: the value of `q`, what is told of what is found, and behind how many commits the journal begins
pub record Keys : Type 0 where
  pub text : Option (List ℕ)
  pub told : Told
  pub from : Option ℕ

-- no key says anything
abbrev pub no_keys : Keys
no_keys = record { text = None; told = Ids; from = None }

-- the keys with a value of `q`, which comes once
abbrev pub with_text : Keys → List ℕ → Option Keys
with_text keys value = if is_some keys.text then None else Some (record { text = Some value; told = keys.told; from = keys.from })

-- no key said how many of the newest or the oldest are told
abbrev pub tells_ids : Told → Bool
tells_ids Ids = true
tells_ids _ = false

-- the keys with so many of the newest or the oldest, of which one comes at most, and once
abbrev pub with_told : Keys → Told → Option Keys
with_told keys told = if tells_ids keys.told then Some (record { text = keys.text; told = told; from = keys.from }) else None

-- the keys with the number of `from`, which comes once
abbrev pub with_from : Keys → ℕ → Option Keys
with_from keys from = if is_some keys.from then None else Some (record { text = keys.text; told = keys.told; from = Some from })

-- the keys with one of this name and value; where it is none of these, or came before, or its number is none, there are no keys
unfoldable pub with_key : Keys → List ℕ → List ℕ → Option Keys
with_key keys name value =
    if bytes_eq name (codes "q") then with_text keys value
    else (if bytes_eq name (codes "newest") then option_and_then (λ most. with_told keys (Last most)) (number_of value)
    else (if bytes_eq name (codes "oldest") then option_and_then (λ most. with_told keys (First most)) (number_of value)
    else (if bytes_eq name (codes "from") then option_and_then (with_from keys) (number_of value) else None)))

-- an equals sign
abbrev pub is_equals : ℕ → Bool
is_equals byte = byte == 61

-- the keys with that of a piece, which is a name, an equals sign and a value
unfoldable pub with_piece : Keys → List ℕ → Option Keys
with_piece keys piece =
    if bytes_eq (before_first is_equals piece) piece then None else with_key keys (before_first is_equals piece) (after_first is_equals piece)

-- the keys with those of all pieces
abbrev pub with_pieces : Keys → List (List ℕ) → Option Keys
with_pieces keys [] = Some keys
with_pieces keys (piece ∷ pieces) = option_and_then (λ more. with_pieces more pieces) (with_piece keys piece)

-- an ampersand
abbrev pub is_ampersand : ℕ → Bool
is_ampersand byte = byte == 38

-- what the keys of a query string say, of which ampersands part the pieces
unfoldable pub keys_in : List ℕ → Option Keys
keys_in query = with_pieces no_keys (slice_split is_ampersand query)

-- a question mark
abbrev pub is_question : ℕ → Bool
is_question byte = byte == 63

-- what the keys of a target say, which has a query string behind its first question mark, or none
unfoldable pub keys_of : List ℕ → Option Keys
keys_of target = if bytes_eq (before_first is_question target) target then Some no_keys else keys_in (after_first is_question target)

-- no text is there unless one is said
abbrev pub text_or_none : Option (List ℕ) → List ℕ
text_or_none None = []
text_or_none (Some value) = value

-- the route of a find with these keys
abbrev pub find_by : Keys → Option Route
find_by keys = if is_some keys.from then None else Some (Find keys.told (text_or_none keys.text))

-- and of a query
abbrev pub query_by : Keys → Option Route
query_by keys = if is_some keys.from then None else Some (Query keys.told (text_or_none keys.text))

-- and of a count, which without a text is that of each document
abbrev pub count_of : Option (List ℕ) → Route
count_of None = Find Amount []
count_of (Some value) = Query Amount value

abbrev pub count_by : Keys → Option Route
count_by keys = if tells_ids keys.told && not (is_some keys.from) then Some (count_of keys.text) else None

-- and of a journal, which has to say where it begins
abbrev pub journal_by : Keys → Option Route
journal_by keys = if tells_ids keys.told && not (is_some keys.text) then option_map Journal keys.from else None

-- the document's number behind `/documents/`
abbrev pub number_in : List ℕ → Option ℕ
number_in target = if bytes_eq (take 11 target) (codes "/documents/") then number_of (drop 11 target) else None

-- the route of a target with the method GET that may have keys, by what stands before its question mark
unfoldable pub route_by_keys : List ℕ → Option Route
route_by_keys target =
    if bytes_eq (before_first is_question target) (codes "/find") then option_and_then find_by (keys_of target)
    else (if bytes_eq (before_first is_question target) (codes "/query") then option_and_then query_by (keys_of target)
    else (if bytes_eq (before_first is_question target) (codes "/count") then option_and_then count_by (keys_of target)
    else (if bytes_eq (before_first is_question target) (codes "/journal") then option_and_then journal_by (keys_of target)
    else option_map Get (number_in target))))

-- the route of a target with the method GET
unfoldable pub route_of_get : List ℕ → Option Route
route_of_get target =
    if bytes_eq target (codes "/place") then Some Place
    else (if bytes_eq target (codes "/stats") then Some Stats
    else (if bytes_eq target (codes "/metrics") then Some Metrics
    else route_by_keys target))

-- the route of a target with the method POST
unfoldable pub route_of_post : List ℕ → Option Route
route_of_post target =
    if bytes_eq target (codes "/documents") then Some Add
    else (if bytes_eq target (codes "/recycle") then Some Recycle
    else (if bytes_eq target (codes "/tune") then Some Tune else None))

-- the route of a method and a target that is text
unfoldable pub route_of_text : List ℕ → List ℕ → Option Route
route_of_text method target =
    if bytes_eq method (codes "GET") then route_of_get target
    else (if bytes_eq method (codes "POST") then route_of_post target
    else (if bytes_eq method (codes "PUT") then option_map Put (number_in target)
    else (if bytes_eq method (codes "DELETE") then option_map Delete (number_in target) else None)))

-- the route of a method and a target, if they have one
unfoldable pub route_of : List ℕ → List ℕ → Option Route
route_of method target = if is_utf8 target then route_of_text method target else None

-- what was parsed that is told
abbrev pub told_seen : Amounts → Told
told_seen amounts.All = Ids
told_seen amounts.Count = Amount
told_seen (amounts.Newest most) = Last most
told_seen (amounts.Oldest most) = First most

-- the keys that were parsed
abbrev pub keys_seen : Parsed_Keys → Keys
keys_seen keys = record { text = option_map (λ text. text.now) keys.text; told = told_seen keys.told; from = keys.from }

-- the route that was parsed
abbrev pub route_seen : Parsed → Route
route_seen parsed.Add = Add
route_seen (parsed.Put id) = Put id
route_seen (parsed.Get id) = Get id
route_seen (parsed.Delete id) = Delete id
route_seen (parsed.Find told value) = Find (told_seen told) value.now
route_seen (parsed.Query told value) = Query (told_seen told) value.now
route_seen parsed.Place = Place
route_seen parsed.Stats = Stats
route_seen parsed.Metrics = Metrics
route_seen (parsed.Journal from) = Journal from
route_seen parsed.Recycle = Recycle
route_seen parsed.Tune = Tune
