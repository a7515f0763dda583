-- The add of a body, by its tokens.
use Rattle.std.proofs.Common.{◌≡◌, ℕ, ◌≤◌, List, [], ◌∷◌, ◌++◌, Bool, true, false, Option, Some, None, MatchOption, option_and_then, refl, sym, ap, ◌∙◌, subst, arith, append-nil}
use Rattle.std.specs.Str.{IsUtf8, is_utf8}
use Rattle.std.proofs.lemmas.Str.{IsUtf8-from_is_utf8, is_utf8-from_IsUtf8}
use Rattle.funnel_model.specs.declared.call.Call.{Call}
use Rattle.funnel_model.specs.declared.call.Call.TheVariants.{Add}
use Rattle.json.specs.Token.{Token}
use Rattle.json.specs.Json.{Json, null, boolean, number, string, array, object, no_members, member, document, if_last, max_depth, value}
use Rattle.json.specs.Lex.{tokens}
use Rattle.json.specs.Tree.{depth, json_tokens}
use Rattle.json.proofs.Unique.Spelling.{tokens-document}
use Rattle.json.proofs.Printed.Trees.{value-json_tokens}
use Rattle.http_front.specs.Documents.{Part, Id, Text, add_of, add_of_parts, add_of_two, document_of, part_of, text_in, text_of_body, text_of_part}
use Rattle.http_front.specs.Tokens.{AsksAdd, AsksNothing, BeginsWithNoPart, BeginsWithPart, TellsNoText, TellsText, part_of_token}
use Rattle.http_front.specs.declared.document.Document.{Document}

-- a value that is a part has one token, and nests nothing
record IsPartValue (name : List ℕ) (token : Token) (part : Part) : Type 0 where
  pub json : Json
  pub tokens_are : json_tokens json ≡ token ∷ []
  pub flat : depth json ≡ 0
  pub is : part_of name json ≡ Some part

part_value : (name : List ℕ) (token : Token) (part : Part) → part_of_token name token ≡ Some part → IsPartValue name token part
part_value name (Token.number digits) part is = record { json = number digits; tokens_are = refl; flat = refl; is = is }
part_value name (Token.string text) part is = record { json = string text; tokens_are = refl; flat = refl; is = is }
part_value name Token.begin_object part is = absurd (cc)
part_value name Token.end_object part is = absurd (cc)
part_value name Token.begin_array part is = absurd (cc)
part_value name Token.end_array part is = absurd (cc)
part_value name (Token.key s) part is = absurd (cc)
part_value name (Token.boolean b) part is = absurd (cc)
part_value name Token.null part is = absurd (cc)
part_value name Token.bad part is = absurd (cc)

-- a text with the tokens of a value that nests no deeper than may be is that value
document_by_tokens : (text : List ℕ) (j : Json) → depth j ≤ max_depth → tokens text ≡ json_tokens j → document text ≡ Some j
document_by_tokens text j flat is =
    ap (λ ts. option_and_then (λ (p : Json × List Token). if_last p.0 p.1) (value max_depth ts)) (is ∙ sym (append-nil (json_tokens j)))
    ∙ ap (option_and_then (λ (p : Json × List Token). if_last p.0 p.1)) (value-json_tokens j max_depth [] flat)

-- tokens that ask for an add are those of an object that does
pub asks_add : (text : List ℕ) (asked : Call) → AsksAdd (tokens text) asked → option_and_then add_of (document text) ≡ Some asked
asks_add text asked asks =
    let one = part_value asks.begins.name asks.begins.value asks.first asks.begins.is in
    let other = part_value asks.follows.name asks.follows.value asks.second asks.follows.is in
    let j : Json = object (member asks.begins.name one.json (member asks.follows.name other.json no_members)) in
    let flat : depth j ≤ max_depth = omega (arith, one.flat, other.flat) in
    let is : tokens text ≡ json_tokens j =
    asks.tokens_are
    ∙ ap (λ ts. Token.begin_object ∷ ts)
    (asks.begins.tokens_are
    ∙ ap (λ ts. Token.key asks.begins.name ∷ asks.begins.value ∷ ts) asks.follows.tokens_are
    ∙ ap (λ ts. Token.key asks.begins.name ∷ asks.begins.value ∷ Token.key asks.follows.name ∷ (ts ++ Token.end_object ∷ [])) (sym other.tokens_are)
    ∙ ap (λ ts. Token.key asks.begins.name ∷ (ts ++ Token.key asks.follows.name ∷ (json_tokens other.json ++ Token.end_object ∷ []))) (sym one.tokens_are)) in
    ap (option_and_then add_of) (document_by_tokens text j flat is)
    ∙ rw (one.is, other.is) asks.is

-- the token of a value that is a part
record HasToken (name : List ℕ) (json : Json) (part : Part) : Type 0 where
  pub token : Token
  pub tokens_are : json_tokens json ≡ token ∷ []
  pub is : part_of_token name token ≡ Some part

part_token : (name : List ℕ) (json : Json) (part : Part) → part_of name json ≡ Some part → HasToken name json part
part_token name (number digits) part is = record { token = Token.number digits; tokens_are = refl; is = is }
part_token name (string text) part is = record { token = Token.string text; tokens_are = refl; is = is }
part_token name null part is = absurd (cc)
part_token name (boolean b) part is = absurd (cc)
part_token name (array js) part is = absurd (cc)
part_token name (object ms) part is = absurd (cc)

-- both parts of an add
record HasParts (one other : Option Part) (asked : Call) : Type 0 where
  pub first : Part
  pub second : Part
  pub first_is : one ≡ Some first
  pub second_is : other ≡ Some second
  pub is : add_of_two first second ≡ Some asked

has_parts : (one other : Option Part) (asked : Call) → add_of_parts one other ≡ Some asked → HasParts one other asked
has_parts None other asked is = absurd (cc)
has_parts (Some first) None asked is = absurd (cc)
has_parts (Some first) (Some second) asked is = record { first = first; second = second; first_is = refl; second_is = refl; is = is }

-- an object that asks for an add has the tokens for it
from_json : (j : Json) (asked : Call) → add_of j ≡ Some asked → AsksAdd (json_tokens j) asked
from_json (object (member name value (member name' value' no_members))) asked is =
    let parts = has_parts (part_of name value) (part_of name' value') asked is in
    let one = part_token name value parts.first parts.first_is in
    let other = part_token name' value' parts.second parts.second_is in
    record {
      members = Token.key name ∷ (json_tokens value ++ Token.key name' ∷ (json_tokens value' ++ Token.end_object ∷ []));
      tokens_are = refl;
      first = parts.first;
      middle = Token.key name' ∷ (json_tokens value' ++ Token.end_object ∷ []);
      begins = record { name = name; value = one.token; tokens_are = ap (λ ts. Token.key name ∷ (ts ++ Token.key name' ∷ (json_tokens value' ++ Token.end_object ∷ []))) one.tokens_are; is = one.is };
      second = parts.second;
      follows = record { name = name'; value = other.token; tokens_are = ap (λ ts. Token.key name' ∷ (ts ++ Token.end_object ∷ [])) other.tokens_are; is = other.is };
      is = parts.is;
    }
from_json (object (member name value (member name' value' (member name'' value'' ms)))) asked is = absurd (cc)
from_json (object (member name value no_members)) asked is = absurd (cc)
from_json (object no_members) asked is = absurd (cc)
from_json null asked is = absurd (cc)
from_json (boolean b) asked is = absurd (cc)
from_json (number digits) asked is = absurd (cc)
from_json (string text) asked is = absurd (cc)
from_json (array js) asked is = absurd (cc)

-- where the tokens ask for nothing, no object does
no_add : (text : List ℕ) (j : Json) (o : Option Call) → AsksNothing (tokens text) → document text ≡ Some j → add_of j ≡ o → add_of j ≡ None
no_add text j None nothing is added = added
no_add text j (Some asked) nothing is added = absurd (nothing asked (subst (λ ts. AsksAdd ts asked) (sym (tokens-document text j is)) (from_json j asked added)))

no_document : (text : List ℕ) (o : Option Json) → AsksNothing (tokens text) → document text ≡ o → option_and_then add_of (document text) ≡ None
no_document text None nothing is = ap (option_and_then add_of) is
no_document text (Some j) nothing is = ap (option_and_then add_of) is ∙ no_add text j (add_of j) nothing is refl

pub asks_nothing : (text : List ℕ) → AsksNothing (tokens text) → option_and_then add_of (document text) ≡ None
asks_nothing text nothing = no_document text (document text) nothing refl

-- bytes that are no text ask for nothing
by_test : (body : List ℕ) (b : Bool) → is_utf8 body ≡ b → ¬ (IsUtf8 body) → document_of body ≡ None
unfolding document_of
by_test body true is other = absurd (other (IsUtf8-from_is_utf8 body is))
by_test body false is other = rw is refl

pub no_text : (body : List ℕ) → ¬ (IsUtf8 body) → document_of body ≡ None
no_text body other = by_test body (is_utf8 body) refl other

of_text : (body : List ℕ) → IsUtf8 body → document_of body ≡ option_and_then add_of (document body)
unfolding document_of
of_text body text = rw (is_utf8-from_IsUtf8 body text) refl

-- tokens of an object without a first part ask for nothing, nor do those without a second
pub no_first : (old new : List Token) → old ≡ Token.begin_object ∷ new → BeginsWithNoPart new → AsksNothing old
no_first old new is none asked asks =
    let same : asks.members ≡ new = cc (asks.tokens_are, is) in
    none asks.first asks.middle (subst (λ (ts : List Token). BeginsWithPart ts asks.first asks.middle) same asks.begins)

pub no_second : (old new next : List Token) (part : Part) → old ≡ Token.begin_object ∷ new → BeginsWithPart new part next → BeginsWithNoPart next → AsksNothing old
no_second old new next part is begins none asked asks =
    let same : asks.middle ≡ next = cc (asks.tokens_are, is, asks.begins.tokens_are, begins.tokens_are) in
    none asks.second (Token.end_object ∷ []) (subst (λ (ts : List Token). BeginsWithPart ts asks.second (Token.end_object ∷ [])) same asks.follows)

-- what was read of the tokens is the document
pub read : (body : List ℕ) (r : Option Document) → IsUtf8 body → MatchOption r (AsksNothing (tokens body)) (λ d. AsksAdd (tokens body) (Add d.id d.text.now))
    → MatchOption r (document_of body ≡ None) (λ d. document_of body ≡ Some (Add d.id d.text.now))
read body None text nothing = of_text body text ∙ asks_nothing body nothing
read body (Some d) text asks = of_text body text ∙ asks_add body (Add d.id d.text.now) asks

-- what an object asks for is an add
two_parts : (one other : Part) (asked : Call) → add_of_two one other ≡ Some asked → (id : ℕ) × (text : List ℕ) × (asked ≡ Add id text)
two_parts (Id id) (Text text) asked is = (id, text, cc)
two_parts (Text text) (Id id) asked is = (id, text, cc)
two_parts (Id id) (Id other) asked is = absurd (cc)
two_parts (Text text) (Text other) asked is = absurd (cc)

pub asks_of_two : (j : Json) (asked : Call) → add_of j ≡ Some asked → (id : ℕ) × (text : List ℕ) × (asked ≡ Add id text)
asks_of_two j asked is = let asks = from_json j asked is in two_parts asks.first asks.second asked asks.is

-- ---- the text of a body that is put

-- tokens that tell a text are those of an object that does
tells_text : (body text : List ℕ) → TellsText (tokens body) text → option_and_then text_in (document body) ≡ Some text
tells_text body text tells =
    let one = part_value tells.begins.name tells.begins.value (Text text) tells.begins.is in
    let j : Json = object (member tells.begins.name one.json no_members) in
    let flat : depth j ≤ max_depth = omega (arith, one.flat) in
    let is : tokens body ≡ json_tokens j =
    tells.tokens_are
    ∙ ap (λ ts. Token.begin_object ∷ ts)
    (tells.begins.tokens_are ∙ ap (λ ts. Token.key tells.begins.name ∷ (ts ++ Token.end_object ∷ [])) (sym one.tokens_are)) in
    ap (option_and_then text_in) (document_by_tokens body j flat is) ∙ ap (option_and_then text_of_part) one.is

-- a part with this text is that text
text_part : (o : Option Part) (text : List ℕ) → option_and_then text_of_part o ≡ Some text → o ≡ Some (Text text)
text_part None text is = absurd (cc)
text_part (Some (Id id)) text is = absurd (cc)
text_part (Some (Text other)) text is = let same : other ≡ text = cc in ap (λ (t : List ℕ). Some (Text t)) same

-- an object that tells a text has the tokens for it
text_json : (j : Json) (text : List ℕ) → text_in j ≡ Some text → TellsText (json_tokens j) text
text_json (object (member name value no_members)) text is =
    let one = part_token name value (Text text) (text_part (part_of name value) text is) in
    record {
      members = Token.key name ∷ (json_tokens value ++ Token.end_object ∷ []);
      tokens_are = refl;
      begins = record { name = name; value = one.token; tokens_are = ap (λ ts. Token.key name ∷ (ts ++ Token.end_object ∷ [])) one.tokens_are; is = one.is };
    }
text_json (object (member name value (member name' value' ms))) text is = absurd (cc)
text_json (object no_members) text is = absurd (cc)
text_json null text is = absurd (cc)
text_json (boolean b) text is = absurd (cc)
text_json (number digits) text is = absurd (cc)
text_json (string told) text is = absurd (cc)
text_json (array js) text is = absurd (cc)

no_text_in : (body : List ℕ) (j : Json) (o : Option (List ℕ)) → TellsNoText (tokens body) → document body ≡ Some j → text_in j ≡ o → text_in j ≡ None
no_text_in body j None nothing is told = told
no_text_in body j (Some text) nothing is told = absurd (nothing text (subst (λ ts. TellsText ts text) (sym (tokens-document body j is)) (text_json j text told)))

tells_nothing : (body : List ℕ) (o : Option Json) → TellsNoText (tokens body) → document body ≡ o → option_and_then text_in (document body) ≡ None
tells_nothing body None nothing is = ap (option_and_then text_in) is
tells_nothing body (Some j) nothing is = ap (option_and_then text_in) is ∙ no_text_in body j (text_in j) nothing is refl

-- bytes that are no text tell none
no_body_text : (body : List ℕ) (b : Bool) → is_utf8 body ≡ b → ¬ (IsUtf8 body) → text_of_body body ≡ None
unfolding text_of_body
no_body_text body true is other = absurd (other (IsUtf8-from_is_utf8 body is))
no_body_text body false is other = rw is refl

pub untold : (body : List ℕ) → ¬ (IsUtf8 body) → text_of_body body ≡ None
untold body other = no_body_text body (is_utf8 body) refl other

body_text : (body : List ℕ) → IsUtf8 body → text_of_body body ≡ option_and_then text_in (document body)
unfolding text_of_body
body_text body text = rw (is_utf8-from_IsUtf8 body text) refl

-- what was read of the tokens is the text, where something was read
pub read_text : {A : Type 0} (body : List ℕ) (now : A → List ℕ) (r : Option A) → IsUtf8 body
    → MatchOption r (TellsNoText (tokens body)) (λ t. TellsText (tokens body) (now t)) → MatchOption r (text_of_body body ≡ None) (λ t. text_of_body body ≡ Some (now t))
read_text body now None utf8 nothing = body_text body utf8 ∙ tells_nothing body (document body) nothing refl
read_text body now (Some t) utf8 tells = body_text body utf8 ∙ tells_text body (now t) tells

-- tokens of an object without a part tell none
pub no_part : (old new : List Token) → old ≡ Token.begin_object ∷ new → BeginsWithNoPart new → TellsNoText old
no_part old new is none text tells =
    let same : tells.members ≡ new = cc (tells.tokens_are, is) in
    none (Text text) (Token.end_object ∷ []) (subst (λ (ts : List Token). BeginsWithPart ts (Text text) (Token.end_object ∷ [])) same tells.begins)
