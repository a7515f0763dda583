-- The head of a request (RFC 9112, sections 2 to 6), and what its fields say of the body and of the connection.
use Rattle.std.specs.Prelude.{◌≡◌, ◌<◌, ◌≤◌, ◌⊎◌, ◌==◌, ◌||◌, ℕ, Bool, List, [], ◌∷◌, ◌++◌, length, take, map, codes, Option, Some, None, if◌then◌else◌}
use Rattle.std.specs.List.{filter_map, list_any}
use Rattle.std.specs.Str.{str_eq_ignore_ascii_case}
use Rattle.httparse.specs.Ascii.{comma}
use Rattle.httparse.specs.Grammar.{HasNoRequest, MayBecomeRequest, ReadsRequest, RequestHead, print_request, trim_ows}
use Rattle.httparse.specs.Spans.{name_and_value}
use Rattle.line_proto.specs.Forms.{number_of}
use Rattle.http_front.specs.declared.framing.TheConstants.{MAX_BODY, MAX_FIELDS, MAX_HEAD}

-- the bytes begin with a head that is not too long and has not too many fields, and then come these bytes
pub record HasHead (bytes : List ℕ) (head : RequestHead) (after : List ℕ) : Type 0 where
  pub reads : ReadsRequest bytes head after
  pub short : length (print_request head) ≤ MAX_HEAD
  pub few : length head.fields ≤ MAX_FIELDS

-- no head begins the bytes, and they are no prefix of one; bytes that end within the target of a request are a prefix
pub record IsNoPrefix (bytes : List ℕ) : Type 0 where
  pub none : HasNoRequest bytes
  pub never : MayBecomeRequest bytes → ⊥

-- as many bytes as a head may have hold no whole one
pub record IsTooLong (bytes : List ℕ) : Type 0 where
  pub many : MAX_HEAD ≤ length bytes
  pub none : HasNoRequest (take MAX_HEAD bytes)

-- a whole head that is not too long has too many fields
pub record HasManyFields (bytes : List ℕ) : Type 0 where
  pub head : RequestHead
  pub after : List ℕ
  pub reads : ReadsRequest bytes head after
  pub short : length (print_request head) ≤ MAX_HEAD
  pub many : MAX_FIELDS < length head.fields

-- the bytes have no head that is read
abbrev pub IsBadHead : List ℕ → Type 0
IsBadHead bytes = IsNoPrefix bytes ⊎ IsTooLong bytes ⊎ HasManyFields bytes

-- of fields, given by their names and values, the values of those of this name; case makes no difference
abbrev pub values_named : List ℕ → List (List ℕ × List ℕ) → List (List ℕ)
values_named name fields = filter_map (λ field. if str_eq_ignore_ascii_case field.0 name then Some field.1 else None) fields

-- the names and the values of the fields of a head
abbrev pub fields_of : RequestHead → List (List ℕ × List ℕ)
fields_of head = map name_and_value head.fields

-- the values of the fields that say how the body is sent, how long it is, and what becomes of the connection
abbrev pub codings : List (List ℕ × List ℕ) → List (List ℕ)
codings fields = values_named (codes "transfer-encoding") fields

abbrev pub lengths : List (List ℕ × List ℕ) → List (List ℕ)
lengths fields = values_named (codes "content-length") fields

abbrev pub connections : List (List ℕ × List ℕ) → List (List ℕ)
connections fields = values_named (codes "connection") fields

-- the length of the body by the values of `Content-Length`: 0 without one, the number that one is, and none by more
abbrev pub length_said : List (List ℕ) → Option ℕ
length_said [] = Some 0
length_said (value ∷ []) = number_of value
length_said (value ∷ other ∷ values) = None

-- the options of a value, which commas part: the option at hand, and then those of the bytes that follow
abbrev pub options_from : List ℕ → List ℕ → List (List ℕ)
options_from option [] = option ∷ []
options_from option (byte ∷ bytes) = if byte == comma then option ∷ options_from [] bytes else options_from (option ++ byte ∷ []) bytes

-- the option is `close`, without the white space around it; case makes no difference
unfoldable pub is_close : List ℕ → Bool
is_close option = str_eq_ignore_ascii_case (trim_ows option) (codes "close")

-- one of the options of the value is `close`
abbrev pub has_close : List ℕ → Bool
has_close value = list_any is_close (options_from [] value)

-- one of the values of `Connection` has the option
abbrev pub closes_by : List (List ℕ) → Bool
closes_by values = list_any has_close values

-- the response to a request with this head closes the connection: it is one of HTTP/1.0, or asks for it
unfoldable pub closes : RequestHead → Bool
closes head = (head.minor == 0) || closes_by (connections (fields_of head))

-- a whole request begins the bytes: its head, its body, of as many bytes as it says, and then comes the rest
pub record HasRequest (bytes : List ℕ) (head : RequestHead) (body rest : List ℕ) : Type 0 where
  pub begins : HasHead bytes head (body ++ rest)
  pub plain : codings (fields_of head) ≡ []
  pub said : length_said (lengths (fields_of head)) ≡ Some (length body)
  pub short : length body ≤ MAX_BODY
