-- The add that the tokens of a body ask for, for the clauses of functions that are not public.
use Rattle.std.specs.Prelude.{◌≡◌, ℕ, List, [], ◌∷◌, Option, Some, None}
use Rattle.json.specs.Token.{Token}
use Rattle.json.specs.Json.{number, string}
use Rattle.funnel_model.specs.declared.call.Call.{Call}
use Rattle.http_front.specs.Documents.{Part, Id, Text, add_of_two, part_of}
use Rattle.http_front.specs.declared.document.Part.{Part as Parsed}
use Rattle.http_front.specs.declared.document.Part.TheVariants as parsed

-- the part that was parsed
abbrev pub part_seen : Parsed → Part
part_seen (parsed.Id id) = Id id
part_seen (parsed.Text text) = Text text.now

-- the part of a member of this name, of which the value is this token
abbrev pub part_of_token : List ℕ → Token → Option Part
part_of_token name (Token.number digits) = part_of name (number digits)
part_of_token name (Token.string text) = part_of name (string text)
part_of_token name _ = None

-- the tokens begin with a member that is this part, and then come the others
pub record BeginsWithPart (tokens : List Token) (part : Part) (others : List Token) : Type 0 where
  pub name : List ℕ
  pub value : Token
  pub tokens_are : tokens ≡ Token.key name ∷ value ∷ others
  pub is : part_of_token name value ≡ Some part

abbrev pub BeginsWithNoPart : List Token → Type 0
BeginsWithNoPart tokens = (part : Part) (others : List Token) → BeginsWithPart tokens part others → ⊥

-- the tokens are those of an object of two members that ask for this add
pub record AsksAdd (tokens : List Token) (asked : Call) : Type 0 where
  pub members : List Token
  pub tokens_are : tokens ≡ Token.begin_object ∷ members
  pub first : Part
  pub middle : List Token
  pub begins : BeginsWithPart members first middle
  pub second : Part
  pub follows : BeginsWithPart middle second (Token.end_object ∷ [])
  pub is : add_of_two first second ≡ Some asked

abbrev pub AsksNothing : List Token → Type 0
AsksNothing tokens = (asked : Call) → AsksAdd tokens asked → ⊥

-- the tokens are those of an object of one member that is this text
pub record TellsText (tokens : List Token) (text : List ℕ) : Type 0 where
  pub members : List Token
  pub tokens_are : tokens ≡ Token.begin_object ∷ members
  pub begins : BeginsWithPart members (Text text) (Token.end_object ∷ [])

abbrev pub TellsNoText : List Token → Type 0
TellsNoText tokens = (text : List ℕ) → TellsText tokens text → ⊥
