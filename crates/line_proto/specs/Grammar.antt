-- The protocol's lines as a grammar: what a line of each form is put together from.
use Rattle.std.specs.Prelude.{◌≡◌, ◌≢◌, ◌⊎◌, ◌↔◌, ℕ, ◌^◌, ◌<◌, ◌≤◌, List, [], ◌∷◌, ◌++◌, length, codes, Some}
use Rattle.std.specs.Str.{IsUtf8}
use Rattle.std.specs.Str.Parse.{IsNumeral, digits_value}
use Rattle.funnel_model.specs.declared.call.Call.{Call}
use Rattle.funnel_model.specs.declared.call.Call.TheVariants.{Add, Put, Delete, Find, Get, Place, Journal, Stats, Recycle}
use Rattle.funnel_io.specs.declared.line_reader.TheConstants.{MAX_LINE_LEN}
use Rattle.line_proto.specs.Forms.{Asked, Calls, Searches, Tunes, Told, Ids, Amount, Last, First, Sought, ByQuery, ByWords, form_of}

-- 1 to 20 digits, with leading zeros or without, write a number below 2 ^ 64
pub record WritesNumber (digits : List ℕ) (number : ℕ) : Type 0 where
  pub numeral : IsNumeral 10 digits
  pub short : length digits ≤ 20
  pub value : digits_value 10 digits ≡ number
  pub fits : number < 2 ^ 64

-- what ends a line that may have a text: nothing for the empty text, or a space and the text
abbrev pub EndsWithText : List ℕ → List ℕ → Type 0
EndsWithText end text = ((end ≡ []) × (text ≡ [])) ⊎ ((end ≡ 32 ∷ text) × IsUtf8 text)

-- what ends a line that may have a boolean query: nothing, by which each document is kept, or a space and the query's text
abbrev pub EndsWithSearch : List ℕ → Sought → Type 0
EndsWithSearch end (ByQuery text) = (end ≡ 32 ∷ text) × IsUtf8 text
EndsWithSearch end (ByWords text) = (end ≡ []) × (text ≡ [])

-- the bytes are a form of the call; no form asks for a call by an expression or a configuration that is read already
abbrev pub IsFormOfCall : List ℕ → Call → Type 0
IsFormOfCall bytes (Add id text) = (digits : List ℕ) × (end : List ℕ) × (bytes ≡ codes "add " ++ (digits ++ end)) × WritesNumber digits id × EndsWithText end text
IsFormOfCall bytes (Put id text) = (digits : List ℕ) × (end : List ℕ) × (bytes ≡ codes "put " ++ (digits ++ end)) × WritesNumber digits id × EndsWithText end text
IsFormOfCall bytes (Delete id) = (digits : List ℕ) × (bytes ≡ codes "del " ++ digits) × WritesNumber digits id
IsFormOfCall bytes (Get id) = (digits : List ℕ) × (bytes ≡ codes "get " ++ digits) × WritesNumber digits id
IsFormOfCall bytes (Find query) = (end : List ℕ) × (bytes ≡ codes "find" ++ end) × EndsWithText end query
IsFormOfCall bytes Place = bytes ≡ codes "place"
IsFormOfCall bytes (Journal from) = (digits : List ℕ) × (bytes ≡ codes "journal " ++ digits) × WritesNumber digits from
IsFormOfCall bytes Stats = bytes ≡ codes "stats"
IsFormOfCall bytes Recycle = bytes ≡ codes "recycle"
IsFormOfCall bytes _ = ⊥

-- the bytes are the word, a space, a number of documents, and what ends a search
abbrev pub IsFormOfSome : List ℕ → List ℕ → ℕ → Sought → Type 0
IsFormOfSome bytes word most sought = (digits : List ℕ) × (end : List ℕ) × (bytes ≡ word ++ (digits ++ end)) × WritesNumber digits most × EndsWithSearch end sought

-- the bytes are a form of the search: `query`, a space and a text, `count` with a text or without, or `newest` or `oldest` and a number, with
-- a text or without
abbrev pub IsFormOfSearch : List ℕ → Told → Sought → Type 0
IsFormOfSearch bytes Ids (ByQuery text) = (bytes ≡ codes "query " ++ text) × IsUtf8 text
IsFormOfSearch bytes Ids (ByWords text) = ⊥
IsFormOfSearch bytes Amount sought = (end : List ℕ) × (bytes ≡ codes "count" ++ end) × EndsWithSearch end sought
IsFormOfSearch bytes (Last most) sought = IsFormOfSome bytes (codes "newest ") most sought
IsFormOfSearch bytes (First most) sought = IsFormOfSome bytes (codes "oldest ") most sought

-- the bytes are a form of what is asked: a call's, a search's, or `tune`, a space and a text
abbrev pub IsForm : List ℕ → Asked → Type 0
IsForm bytes (Calls asked) = IsFormOfCall bytes asked
IsForm bytes (Searches told sought) = IsFormOfSearch bytes told sought
IsForm bytes (Tunes text) = (bytes ≡ codes "tune " ++ text) × IsUtf8 text

-- the line is these bytes and a carriage return, or it is these bytes and doesn't end with one
abbrev pub DropsReturn : List ℕ → List ℕ → Type 0
DropsReturn line bytes = (line ≡ bytes ++ (13 ∷ [])) ⊎ ((line ≡ bytes) × ((front : List ℕ) → line ≢ front ++ (13 ∷ [])))

-- the line has a form of what is asked
pub record HasForm (line : List ℕ) (asked : Asked) : Type 0 where
  pub short : length line ≤ MAX_LINE_LEN
  pub bytes : List ℕ
  pub dropped : DropsReturn line bytes
  pub form : IsForm bytes asked

-- a line asks for that of which it has a form, and for nothing where it has none
abbrev pub IsReadByForms : List ℕ → Type 0
IsReadByForms line = (asked : Asked) → (form_of line ≡ Some asked) ↔ HasForm line asked
