-- What a line asks for, by the forms of the protocol.
use Rattle.std.specs.Prelude.{ℕ, ◌-◌, ◌^◌, Bool, ◌&&◌, List, [], ◌∷◌, length, take, map, Option, Some, None, option_map, nat_eq, nat_lt, nat_le, ◌==◌, if◌then◌else◌, codes, bytes_eq}
use Rattle.std.specs.List.{before_first, after_first, ends_with}
use Rattle.std.specs.Str.{all_ascii_digits, is_utf8}
use Rattle.std.specs.Str.Parse.{digits_value}
use Rattle.funnel_model.specs.declared.call.Call.{Call}
use Rattle.funnel_model.specs.declared.call.Call.TheVariants.{Add, Put, Delete, Find, Get, Place, Journal, Stats, Recycle}
use Rattle.funnel_io.specs.Lines.{lines}
use Rattle.funnel_io.specs.declared.line_reader.TheConstants.{MAX_LINE_LEN}

-- the line without one carriage return at its end, if it has one there
abbrev pub without_return : List ℕ → List ℕ
without_return line = if ends_with nat_eq line (13 ∷ []) then take (length line - 1) line else line

-- a space
abbrev pub is_space : ℕ → Bool
is_space byte = byte == 32

-- the bytes before the first space, or all of them where there is none
abbrev pub word_of : List ℕ → List ℕ
word_of bytes = before_first is_space bytes

-- the bytes after the first space, or none where there is none
abbrev pub after_space : List ℕ → List ℕ
after_space bytes = after_first is_space bytes

-- 1 to 20 ASCII digits that write a number below 2 ^ 64
abbrev pub is_number : List ℕ → Bool
is_number word = nat_lt 0 (length word) && nat_le (length word) 20 && all_ascii_digits word && nat_lt (digits_value 10 word) (2 ^ 64)

-- the number that a word writes, if it is one
abbrev pub number_of : List ℕ → Option ℕ
number_of word = if is_number word then Some (digits_value 10 word) else None

-- what is told of the documents that a search keeps: their numbers, how many they are, or how many and at most so many numbers, of those
-- that were added last, the newest first, or of those that were added first, the oldest first
pub data Told : Type 0 where
  Ids : Told
  Amount : Told
  Last : ℕ → Told
  First : ℕ → Told

-- what a search keeps: what a text finds that is yet to be read as a boolean query, or the documents that have every word of a text
pub data Sought : Type 0 where
  ByQuery : List ℕ → Sought
  ByWords : List ℕ → Sought

-- what a line of a form asks for: a call, so much of what a search keeps, or the tuning by a text that is yet to be read as a configuration
pub data Asked : Type 0 where
  Calls : Call → Asked
  Searches : Told → Sought → Asked
  Tunes : List ℕ → Asked

-- a number and then, after a space, the document's text
unfoldable pub add_of : List ℕ → Option Asked
add_of bytes = option_map (λ id. Calls (Add id (after_space bytes))) (number_of (word_of bytes))

-- so it is with a put
unfoldable pub put_of : List ℕ → Option Asked
put_of bytes = option_map (λ id. Calls (Put id (after_space bytes))) (number_of (word_of bytes))

-- a number and nothing else
unfoldable pub delete_of : List ℕ → Option Asked
delete_of bytes = option_map (λ id. Calls (Delete id)) (number_of bytes)

-- a number and nothing else
unfoldable pub get_of : List ℕ → Option Asked
get_of bytes = option_map (λ id. Calls (Get id)) (number_of bytes)

-- a number and nothing else
unfoldable pub journal_of : List ℕ → Option Asked
journal_of bytes = option_map (λ from. Calls (Journal from)) (number_of bytes)

-- a text whose word is `query` asks for what is behind the space; the word alone has no form
unfoldable pub query_of : List ℕ → Option Asked
query_of text = if bytes_eq text (codes "query") then None else Some (Searches Ids (ByQuery (after_space text)))

-- so it is with a text whose word is `tune`
unfoldable pub tune_of : List ℕ → Option Asked
tune_of text = if bytes_eq text (codes "tune") then None else Some (Tunes (after_space text))

-- behind a word or a number a space and a boolean query may stand; without the space each document is kept, as it has each word of no text
abbrev pub sought_in : List ℕ → Sought
sought_in bytes = if bytes_eq (word_of bytes) bytes then ByWords [] else ByQuery (after_space bytes)

-- a number of documents, and what may stand behind it
unfoldable pub newest_of : List ℕ → Option Asked
newest_of bytes = option_map (λ most. Searches (Last most) (sought_in bytes)) (number_of (word_of bytes))

-- so it is with the oldest
unfoldable pub oldest_of : List ℕ → Option Asked
oldest_of bytes = option_map (λ most. Searches (First most) (sought_in bytes)) (number_of (word_of bytes))

-- what a text asks for that is one word
unfoldable pub asked_of_word : List ℕ → Option Asked
asked_of_word text =
    if bytes_eq text (codes "place") then Some (Calls Place)
    else (if bytes_eq text (codes "stats") then Some (Calls Stats)
    else (if bytes_eq text (codes "recycle") then Some (Calls Recycle) else None))

-- what a text asks for by its first word, where that is no word of a document or a search; `place`, `stats` and `recycle` stand alone
unfoldable pub asked_of_rest : List ℕ → Option Asked
asked_of_rest text =
    if bytes_eq (word_of text) (codes "tune") then tune_of text
    else (if bytes_eq (word_of text) (codes "journal") then journal_of (after_space text)
    else asked_of_word text)

-- what a text asks for by its first word, where that is no word of a document
unfoldable pub asked_of_search : List ℕ → Option Asked
asked_of_search text =
    if bytes_eq (word_of text) (codes "find") then Some (Calls (Find (after_space text)))
    else (if bytes_eq (word_of text) (codes "query") then query_of text
    else (if bytes_eq (word_of text) (codes "count") then Some (Searches Amount (sought_in text))
    else (if bytes_eq (word_of text) (codes "newest") then newest_of (after_space text)
    else (if bytes_eq (word_of text) (codes "oldest") then oldest_of (after_space text)
    else asked_of_rest text))))

-- what a text asks for, by its first word
unfoldable pub asked_of_text : List ℕ → Option Asked
asked_of_text text =
    if bytes_eq (word_of text) (codes "add") then add_of (after_space text)
    else (if bytes_eq (word_of text) (codes "put") then put_of (after_space text)
    else (if bytes_eq (word_of text) (codes "del") then delete_of (after_space text)
    else (if bytes_eq (word_of text) (codes "get") then get_of (after_space text)
    else asked_of_search text)))

-- what a line asks for, or nothing where the line has no form: it is too long, or no text, or of another shape
unfoldable pub form_of : List ℕ → Option Asked
form_of line =
    if nat_lt MAX_LINE_LEN (length line) then None
    else (if is_utf8 (without_return line) then asked_of_text (without_return line) else None)

-- what a line is to the engine: it asks for something, it has no form, or it is too long
pub data Item : Type 0 where
  Asks : Asked → Item
  Malformed : Item
  TooLong : Item

-- the item of a line that has this form and isn't too long
abbrev pub item_from : Option Asked → Item
item_from None = Malformed
item_from (Some asked) = Asks asked

-- the item of a line
abbrev pub item_of : List ℕ → Item
item_of line = if nat_lt MAX_LINE_LEN (length line) then TooLong else item_from (form_of line)

-- the items of these lines, in their order
abbrev pub items_of : List (List ℕ) → List Item
items_of lines = map item_of lines

-- the items of the bytes, of which a rest without newline is one where the bytes ended
abbrev pub items : List ℕ → Bool → List Item
items bytes ended = items_of (lines bytes ended)
