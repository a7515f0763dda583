-- The document that a body is, or its text.
use Rattle.std.specs.Prelude.{ℕ, List, Option, Some, None, option_map, option_and_then, if◌then◌else◌, codes, bytes_eq}
use Rattle.std.specs.Str.{is_utf8}
use Rattle.funnel_model.specs.declared.call.Call.{Call}
use Rattle.funnel_model.specs.declared.call.Call.TheVariants as call
use Rattle.json.specs.Json.{Json, number, string, object, no_members, member, document}
use Rattle.line_proto.specs.Forms.{number_of}

-- one of the two members of a document: its number, or its text
pub data Part : Type 0 where
  Id : ℕ → Part
  Text : List ℕ → Part

-- the part that a member of this name and value is: `id` is a whole number below 2 ^ 64, and `text` a string
abbrev pub part_of : List ℕ → Json → Option Part
part_of name (number digits) = if bytes_eq name (codes "id") then option_map Id (number_of digits) else None
part_of name (string text) = if bytes_eq name (codes "text") then Some (Text text) else None
part_of name _ = None

-- the add of a number and a text, which come in either order
abbrev pub add_of_two : Part → Part → Option Call
add_of_two (Id id) (Text text) = Some (call.Add id text)
add_of_two (Text text) (Id id) = Some (call.Add id text)
add_of_two _ _ = None

-- the add of two parts, where both are there
abbrev pub add_of_parts : Option Part → Option Part → Option Call
add_of_parts first second = option_and_then (λ one. option_and_then (λ other. add_of_two one other) second) first

-- the add that an object of exactly these two members asks for
abbrev pub add_of : Json → Option Call
add_of (object (member name value (member name' value' no_members))) = add_of_parts (part_of name value) (part_of name' value')
add_of _ = None

-- the add that a body asks for, which is a JSON text (RFC 8259) in UTF-8
unfoldable pub document_of : List ℕ → Option Call
document_of body = if is_utf8 body then option_and_then add_of (document body) else None

-- the text of a part that is one
abbrev pub text_of_part : Part → Option (List ℕ)
text_of_part (Id id) = None
text_of_part (Text text) = Some text

-- the text that an object of exactly this member tells
abbrev pub text_in : Json → Option (List ℕ)
text_in (object (member name value no_members)) = option_and_then text_of_part (part_of name value)
text_in _ = None

-- the text that a body tells, which is a JSON text in UTF-8, too
unfoldable pub text_of_body : List ℕ → Option (List ℕ)
text_of_body body = if is_utf8 body then option_and_then text_in (document body) else None
