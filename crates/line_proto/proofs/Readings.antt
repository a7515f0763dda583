-- Lines are read by the grammar: what a line is read as is of a form, and what is of a form is read so.
use Rattle.std.proofs.Common.{◌≡◌, ℕ, ◌-◌, Bool, true, false, cond, List, [], ◌∷◌, ◌++◌, length, take, codes, Option, Some, None, option_map, nat_eq, nat_lt, refl, sym, ap, subst, ◌∙◌, inl, inr, arith, append-nil, length-append}
use Rattle.std.specs.List.{ends_with}
use Rattle.std.specs.Str.{IsUtf8, is_utf8, bytes_eq}
use Rattle.std.proofs.lemmas.Bool.{ltb-false, false≢true}
use Rattle.std.proofs.lemmas.Bool.Decides.{Decides-eqb}
use Rattle.std.proofs.lemmas.Fmt.{IsAscii-from_digits}
use Rattle.std.proofs.lemmas.List.{take_at}
use Rattle.std.proofs.lemmas.Slice.Eq.{bytes_eq-Decides, ends_is}
use Rattle.std.proofs.lemmas.Str.{IsUtf8-append, IsUtf8-from_ascii, IsUtf8-from_is_utf8, IsUtf8-nil}
use Rattle.funnel_model.specs.declared.call.Call.{Call}
use Rattle.funnel_model.specs.declared.call.Call.TheVariants.{Add, Put, Delete, Find, Get, Place, Journal, Stats, Recycle}
use Rattle.funnel_io.specs.declared.line_reader.TheConstants.{MAX_LINE_LEN}
use Rattle.line_proto.specs.Forms.{Asked, Calls, Searches, Tunes, Told, Ids, Amount, Last, First, Sought, ByQuery, ByWords, without_return, word_of, after_space, number_of, add_of, put_of, delete_of, get_of, journal_of, query_of, newest_of, oldest_of, tune_of, sought_in, asked_of_word, asked_of_rest, asked_of_search, asked_of_text, form_of}
use Rattle.line_proto.specs.Grammar.{WritesNumber, EndsWithText, EndsWithSearch, IsForm, IsFormOfCall, IsFormOfSearch, DropsReturn, HasForm, IsReadByForms}
use Rattle.line_proto.proofs.Lines.{form_of-text, not_from_test}
use Rattle.line_proto.proofs.Numbers.{number_of-writes, number_of-written}
use Rattle.line_proto.proofs.Words.{splits, split-digits}

-- the tests by which a line is read

-- a line that asks for something passed both tests
passes_both : (a b : Bool) (o : Option Asked) (asked : Asked) → cond a None (cond b o None) ≡ Some asked → (a ≡ false) × (b ≡ true) × (o ≡ Some asked)
passes_both true b o asked h = absurd (cc)
passes_both false true o asked h = (refl, refl, h)
passes_both false false o asked h = absurd (cc)

-- an option has one thing
same_asked : (c d : Asked) → Some c ≡ Some d → c ≡ d
same_asked c d h = cc

-- what the bytes are read as so is of a form
abbrev AreOfForm : List ℕ → Option Asked → Type 0
AreOfForm bytes o = (asked : Asked) → o ≡ Some asked → IsForm bytes asked

-- by a test the one is read or the other
by_test : (bytes : List ℕ) (b : Bool) (o later : Option Asked) → (b ≡ true → AreOfForm bytes o) → AreOfForm bytes later → AreOfForm bytes (cond b o later)
by_test bytes true o later first others = first refl
by_test bytes false o later first others = others

-- by the first word
by_word : (bytes word : List ℕ) (o later : Option Asked) → (word_of bytes ≡ word → AreOfForm bytes o) → AreOfForm bytes later →
    AreOfForm bytes (cond (bytes_eq (word_of bytes) word) o later)
by_word bytes word o later first others =
    by_test bytes (bytes_eq (word_of bytes) word) o later (λ is. first ((bytes_eq-Decides (word_of bytes) word).0 is)) others

-- by all of the bytes
by_all : (bytes text : List ℕ) (o later : Option Asked) → (bytes ≡ text → AreOfForm bytes o) → AreOfForm bytes later → AreOfForm bytes (cond (bytes_eq bytes text) o later)
by_all bytes text o later first others = by_test bytes (bytes_eq bytes text) o later (λ is. first ((bytes_eq-Decides bytes text).0 is)) others

-- one thing is read
one_form : (bytes : List ℕ) (made : Asked) → IsForm bytes made → AreOfForm bytes (Some made)
one_form bytes made is = λ asked h. subst (IsForm bytes) (same_asked made asked h) is

-- what is made of a number was made of some number
mapped : (f : ℕ → Asked) (o : Option ℕ) (asked : Asked) → option_map f o ≡ Some asked → (n : ℕ) × (o ≡ Some n) × (f n ≡ asked)
mapped f None asked h = absurd (cc)
mapped f (Some n) asked h = (n, refl, same_asked (f n) asked h)

-- the carriage return

-- what the test for a carriage return says of the line
abbrev TellsReturn : List ℕ → Bool → Type 0
TellsReturn line r = (r ≡ true → line ≡ take (length line - 1) line ++ (13 ∷ [])) × ((front : List ℕ) → line ≡ front ++ (13 ∷ []) → r ≡ true)

-- the test tells whether a carriage return ends the line
tells_return : (line : List ℕ) → TellsReturn line (ends_with nat_eq line (13 ∷ []))
tells_return line = ends_is Decides-eqb line (13 ∷ []) (ends_with nat_eq line (13 ∷ [])) refl

-- by that test, what is left is the line without the return
drops-by : (line : List ℕ) (r : Bool) → TellsReturn line r → DropsReturn line (cond r (take (length line - 1) line) line)
drops-by line true tells = inl (tells.0 refl)
drops-by line false tells = inr (refl, λ front e. false≢true (tells.1 front e))

-- what is left of a line is the line without the return
drops : (line : List ℕ) → DropsReturn line (without_return line)
drops line = drops-by line (ends_with nat_eq line (13 ∷ [])) (tells_return line)

-- by that test, nothing else is
dropped-by : (line bytes : List ℕ) (r : Bool) → TellsReturn line r → DropsReturn line bytes → cond r (take (length line - 1) line) line ≡ bytes
dropped-by line bytes true tells (inl e) =
    ap (λ (l : List ℕ). take (length l - 1) l) e ∙ take_at bytes (13 ∷ []) (length (bytes ++ (13 ∷ [])) - 1) (omega (arith, length-append bytes (13 ∷ [])))
dropped-by line bytes true tells (inr e) = absurd (e.1 (take (length line - 1) line) (tells.0 refl))
dropped-by line bytes false tells (inl e) = absurd (false≢true (tells.1 bytes e))
dropped-by line bytes false tells (inr e) = e.0

-- and nothing else is
dropped : (line bytes : List ℕ) → DropsReturn line bytes → without_return line ≡ bytes
dropped line bytes d = dropped-by line bytes (ends_with nat_eq line (13 ∷ [])) (tells_return line) d

-- from what a line asks for to its form

-- a text with the word `find` is a form of its query
find-form : (bytes : List ℕ) → IsUtf8 bytes → word_of bytes ≡ codes "find" → IsForm bytes (Calls (Find (after_space bytes)))
find-form bytes u word =
    let split = splits bytes u in
    (split.0, subst (λ (w : List ℕ). bytes ≡ w ++ split.0) word split.1, split.2)

-- where something stands behind the space, the space does
behind-space : (bytes word end : List ℕ) → bytes ≡ word ++ end → (after_space bytes ≡ [] → ⊥) → EndsWithText end (after_space bytes) →
    (bytes ≡ word ++ (32 ∷ after_space bytes)) × IsUtf8 (after_space bytes)
behind-space bytes word end whole some (inl e) = absurd (some e.1)
behind-space bytes word end whole some (inr e) = (whole ∙ ap (λ (x : List ℕ). word ++ x) e.0, e.1)

-- a number that stands alone behind a word and its space
alone : (bytes word : List ℕ) (n : ℕ) → IsUtf8 bytes → word_of bytes ≡ word → number_of (after_space bytes) ≡ Some n →
    (bytes ≡ word ++ (32 ∷ after_space bytes)) × WritesNumber (after_space bytes) n
alone bytes word n u is read =
    let split = splits bytes u in
    let w = number_of-writes (after_space bytes) n read in
    ((behind-space bytes word split.0 (subst (λ (x : List ℕ). bytes ≡ x ++ split.0) is split.1) (λ none. omega (arith, w.numeral.0, ap length none)) split.2).0, w)

-- a number that stands behind a word and its space, and what ends the bytes
record IsNumbered (bytes word : List ℕ) (n : ℕ) : Type 0 where
  pub end : List ℕ
  pub whole : bytes ≡ word ++ (32 ∷ (word_of (after_space bytes) ++ end))
  pub writes : WritesNumber (word_of (after_space bytes)) n
  pub rest : after_space bytes ≡ word_of (after_space bytes) ++ end
  pub ends : EndsWithText end (after_space (after_space bytes))

numbered : (bytes word : List ℕ) (n : ℕ) → IsUtf8 bytes → word_of bytes ≡ word → number_of (word_of (after_space bytes)) ≡ Some n → IsNumbered bytes word n
numbered bytes word n u is read =
    let split = splits bytes u in
    let w = number_of-writes (word_of (after_space bytes)) n read in
    let behind =
    behind-space bytes word split.0 (subst (λ (x : List ℕ). bytes ≡ x ++ split.0) is split.1)
    (λ none. omega (arith, w.numeral.0, ap (λ (rest : List ℕ). length (word_of rest)) none)) split.2 in
    let inner = splits (after_space bytes) behind.1 in
    record {
      end = inner.0;
      whole = behind.0 ∙ ap (λ (x : List ℕ). word ++ (32 ∷ x)) inner.1;
      writes = w;
      rest = inner.1;
      ends = inner.2;
    }

-- a text with the word `add`, and with a number, is a form of the add
add-form : (bytes : List ℕ) → IsUtf8 bytes → word_of bytes ≡ codes "add" → AreOfForm bytes (add_of (after_space bytes))
unfolding add_of
add-form bytes u word = λ asked h.
    let read = mapped (λ (id : ℕ). Calls (Add id (after_space (after_space bytes)))) (number_of (word_of (after_space bytes))) asked h in
    let is = numbered bytes (codes "add") read.0 u word read.1 in
    subst (IsForm bytes) read.2 (word_of (after_space bytes), is.end, is.whole, is.writes, is.ends)

-- so is one with the word `put`
put-form : (bytes : List ℕ) → IsUtf8 bytes → word_of bytes ≡ codes "put" → AreOfForm bytes (put_of (after_space bytes))
unfolding put_of
put-form bytes u word = λ asked h.
    let read = mapped (λ (id : ℕ). Calls (Put id (after_space (after_space bytes)))) (number_of (word_of (after_space bytes))) asked h in
    let is = numbered bytes (codes "put") read.0 u word read.1 in
    subst (IsForm bytes) read.2 (word_of (after_space bytes), is.end, is.whole, is.writes, is.ends)

-- a text with the word `del`, and with a number and nothing else, is a form of the delete
delete-form : (bytes : List ℕ) → IsUtf8 bytes → word_of bytes ≡ codes "del" → AreOfForm bytes (delete_of (after_space bytes))
unfolding delete_of
delete-form bytes u word = λ asked h.
    let read = mapped (λ (id : ℕ). Calls (Delete id)) (number_of (after_space bytes)) asked h in
    let is = alone bytes (codes "del") read.0 u word read.1 in
    subst (IsForm bytes) read.2 (after_space bytes, is.0, is.1)

-- so is one with the word `get`
get-form : (bytes : List ℕ) → IsUtf8 bytes → word_of bytes ≡ codes "get" → AreOfForm bytes (get_of (after_space bytes))
unfolding get_of
get-form bytes u word = λ asked h.
    let read = mapped (λ (id : ℕ). Calls (Get id)) (number_of (after_space bytes)) asked h in
    let is = alone bytes (codes "get") read.0 u word read.1 in
    subst (IsForm bytes) read.2 (after_space bytes, is.0, is.1)

-- and one with the word `journal`
journal-form : (bytes : List ℕ) → IsUtf8 bytes → word_of bytes ≡ codes "journal" → AreOfForm bytes (journal_of (after_space bytes))
unfolding journal_of
journal-form bytes u word = λ asked h.
    let read = mapped (λ (from : ℕ). Calls (Journal from)) (number_of (after_space bytes)) asked h in
    let is = alone bytes (codes "journal") read.0 u word read.1 in
    subst (IsForm bytes) read.2 (after_space bytes, is.0, is.1)

-- past a test that gives none something is asked for only where the test isn't true
past_test : (b : Bool) (o : Option Asked) (asked : Asked) → cond b None o ≡ Some asked → (b ≡ true → ⊥) × (o ≡ Some asked)
past_test true o asked h = absurd (cc)
past_test false o asked h = (false≢true, h)

-- a space stands behind a word that alone has no form
behind-word : (word bytes end : List ℕ) → (bytes ≡ word ++ [] → ⊥) → bytes ≡ word ++ end → EndsWithText end (after_space bytes) →
    (bytes ≡ word ++ (32 ∷ after_space bytes)) × IsUtf8 (after_space bytes)
behind-word word bytes end not_alone whole (inl e) = absurd (not_alone (whole ∙ ap (λ (x : List ℕ). word ++ x) e.0))
behind-word word bytes end not_alone whole (inr e) = (whole ∙ ap (λ (x : List ℕ). word ++ x) e.0, e.1)

-- a text with the word `query` and more is a form of what is behind the space
query-form : (bytes : List ℕ) → IsUtf8 bytes → word_of bytes ≡ codes "query" → AreOfForm bytes (query_of bytes)
unfolding query_of
query-form bytes u word = λ asked h.
    let split = splits bytes u in
    let made : Asked = Searches Ids (ByQuery (after_space bytes)) in
    let read = past_test (bytes_eq bytes (codes "query")) (Some made) asked h in
    subst (IsForm bytes) (same_asked made asked read.1)
    (behind-word (codes "query") bytes split.0 (λ only. read.0 ((bytes_eq-Decides bytes (codes "query")).1 only)) (subst (λ (w : List ℕ). bytes ≡ w ++ split.0) word split.1) split.2)

-- so is one with the word `tune` and more
tune-form : (bytes : List ℕ) → IsUtf8 bytes → word_of bytes ≡ codes "tune" → AreOfForm bytes (tune_of bytes)
unfolding tune_of
tune-form bytes u word = λ asked h.
    let split = splits bytes u in
    let read = past_test (bytes_eq bytes (codes "tune")) (Some (Tunes (after_space bytes))) asked h in
    subst (IsForm bytes) (same_asked (Tunes (after_space bytes)) asked read.1)
    (behind-word (codes "tune") bytes split.0 (λ only. read.0 ((bytes_eq-Decides bytes (codes "tune")).1 only)) (subst (λ (w : List ℕ). bytes ≡ w ++ split.0) word split.1) split.2)

-- a list without length is empty
empty : (xs : List ℕ) → length xs ≡ 0 → xs ≡ []
empty [] none = refl
empty (x ∷ xs) none = absurd (omega (arith, none))

-- what ends the bytes is what may stand there of a search, by the test for a word alone
ends-by : (bytes end : List ℕ) (b : Bool) → (b ≡ true → word_of bytes ≡ bytes) → (word_of bytes ≡ bytes → b ≡ true) → bytes ≡ word_of bytes ++ end →
    EndsWithText end (after_space bytes) → EndsWithSearch end (cond b (ByWords []) (ByQuery (after_space bytes)))
ends-by bytes end true same is whole e = (empty end (omega (arith, ap length whole, length-append (word_of bytes) end, ap length (same refl))), refl)
ends-by bytes end false same is whole (inl e) = absurd (false≢true (is (sym (whole ∙ ap (λ (x : List ℕ). word_of bytes ++ x) e.0 ∙ append-nil (word_of bytes)))))
ends-by bytes end false same is whole (inr e) = e

ends-search : (bytes end : List ℕ) → bytes ≡ word_of bytes ++ end → EndsWithText end (after_space bytes) → EndsWithSearch end (sought_in bytes)
ends-search bytes end whole e =
    let tells = bytes_eq-Decides (word_of bytes) bytes in
    ends-by bytes end (bytes_eq (word_of bytes) bytes) tells.0 tells.1 whole e

-- a text with the word `count` is a form of the count of what stands behind it
count-form : (bytes : List ℕ) → IsUtf8 bytes → word_of bytes ≡ codes "count" → AreOfForm bytes (Some (Searches Amount (sought_in bytes)))
count-form bytes u word =
    let split = splits bytes u in
    one_form bytes (Searches Amount (sought_in bytes)) (split.0, subst (λ (w : List ℕ). bytes ≡ w ++ split.0) word split.1, ends-search bytes split.0 split.1 split.2)

-- a text with the word `newest`, and with a number, is a form of so many of the newest
newest-form : (bytes : List ℕ) → IsUtf8 bytes → word_of bytes ≡ codes "newest" → AreOfForm bytes (newest_of (after_space bytes))
unfolding newest_of
newest-form bytes u word = λ asked h.
    let read = mapped (λ (most : ℕ). Searches (Last most) (sought_in (after_space bytes))) (number_of (word_of (after_space bytes))) asked h in
    let is = numbered bytes (codes "newest") read.0 u word read.1 in
    subst (IsForm bytes) read.2 (word_of (after_space bytes), is.end, is.whole, is.writes, ends-search (after_space bytes) is.end is.rest is.ends)

-- so it is with the oldest
oldest-form : (bytes : List ℕ) → IsUtf8 bytes → word_of bytes ≡ codes "oldest" → AreOfForm bytes (oldest_of (after_space bytes))
unfolding oldest_of
oldest-form bytes u word = λ asked h.
    let read = mapped (λ (most : ℕ). Searches (First most) (sought_in (after_space bytes))) (number_of (word_of (after_space bytes))) asked h in
    let is = numbered bytes (codes "oldest") read.0 u word read.1 in
    subst (IsForm bytes) read.2 (word_of (after_space bytes), is.end, is.whole, is.writes, ends-search (after_space bytes) is.end is.rest is.ends)

-- nothing is of any form
none-form : (bytes : List ℕ) → AreOfForm bytes None
none-form bytes = λ asked h. absurd (cc)

-- a text that is one word is a form of what it asks for
word-form : (bytes : List ℕ) → AreOfForm bytes (asked_of_word bytes)
unfolding asked_of_word
word-form bytes =
    by_all bytes (codes "place") _ _ (one_form bytes (Calls Place))
    (by_all bytes (codes "stats") _ _ (one_form bytes (Calls Stats)) (by_all bytes (codes "recycle") _ _ (one_form bytes (Calls Recycle)) (none-form bytes)))

-- a text whose word is none of a document or a search is a form of what it asks for
rest-form : (bytes : List ℕ) → IsUtf8 bytes → AreOfForm bytes (asked_of_rest bytes)
unfolding asked_of_rest
rest-form bytes u =
    by_word bytes (codes "tune") _ _ (tune-form bytes u) (by_word bytes (codes "journal") _ _ (journal-form bytes u) (word-form bytes))

-- so is a text whose word is none of a document
search-form : (bytes : List ℕ) → IsUtf8 bytes → AreOfForm bytes (asked_of_search bytes)
unfolding asked_of_search
search-form bytes u =
    by_word bytes (codes "find") _ _ (λ word. one_form bytes (Calls (Find (after_space bytes))) (find-form bytes u word))
    (by_word bytes (codes "query") _ _ (query-form bytes u)
    (by_word bytes (codes "count") _ _ (count-form bytes u)
    (by_word bytes (codes "newest") _ _ (newest-form bytes u) (by_word bytes (codes "oldest") _ _ (oldest-form bytes u) (rest-form bytes u)))))

-- a text is a form of what it asks for
text-form : (bytes : List ℕ) → IsUtf8 bytes → AreOfForm bytes (asked_of_text bytes)
unfolding asked_of_text
text-form bytes u =
    by_word bytes (codes "add") _ _ (add-form bytes u)
    (by_word bytes (codes "put") _ _ (put-form bytes u)
    (by_word bytes (codes "del") _ _ (delete-form bytes u) (by_word bytes (codes "get") _ _ (get-form bytes u) (search-form bytes u))))

-- a line has a form of what it asks for
has-form : (line : List ℕ) (asked : Asked) → form_of line ≡ Some asked → HasForm line asked
unfolding form_of
has-form line asked h =
    let read = passes_both (nat_lt MAX_LINE_LEN (length line)) (is_utf8 (without_return line)) (asked_of_text (without_return line)) asked h in
    record {
      short = ltb-false MAX_LINE_LEN (length line) read.0;
      bytes = without_return line;
      dropped = drops line;
      form = text-form (without_return line) (IsUtf8-from_is_utf8 (without_return line) read.1) asked read.2;
    }

-- from a form to what the line asks for

-- a space, and the words of the forms, are UTF-8
space-is-text : IsUtf8 (32 ∷ [])
unfolding lib.Utf8.encode
space-is-text = (32 ∷ [], (refl, refl))

add-is-text : IsUtf8 (codes "add ")
unfolding lib.Utf8.encode
add-is-text = (codes "add ", (refl, refl))

put-is-text : IsUtf8 (codes "put ")
unfolding lib.Utf8.encode
put-is-text = (codes "put ", (refl, refl))

delete-is-text : IsUtf8 (codes "del ")
unfolding lib.Utf8.encode
delete-is-text = (codes "del ", (refl, refl))

get-is-text : IsUtf8 (codes "get ")
unfolding lib.Utf8.encode
get-is-text = (codes "get ", (refl, refl))

stats-is-text : IsUtf8 (codes "stats")
unfolding lib.Utf8.encode
stats-is-text = (codes "stats", (refl, refl))

count-is-text : IsUtf8 (codes "count")
unfolding lib.Utf8.encode
count-is-text = (codes "count", (refl, refl))

newest-is-text : IsUtf8 (codes "newest ")
unfolding lib.Utf8.encode
newest-is-text = (codes "newest ", (refl, refl))

oldest-is-text : IsUtf8 (codes "oldest ")
unfolding lib.Utf8.encode
oldest-is-text = (codes "oldest ", (refl, refl))

place-is-text : IsUtf8 (codes "place")
unfolding lib.Utf8.encode
place-is-text = (codes "place", (refl, refl))

find-is-text : IsUtf8 (codes "find")
unfolding lib.Utf8.encode
find-is-text = (codes "find", (refl, refl))

journal-is-text : IsUtf8 (codes "journal ")
unfolding lib.Utf8.encode
journal-is-text = (codes "journal ", (refl, refl))

recycle-is-text : IsUtf8 (codes "recycle")
unfolding lib.Utf8.encode
recycle-is-text = (codes "recycle", (refl, refl))

query-is-text : IsUtf8 (codes "query ")
unfolding lib.Utf8.encode
query-is-text = (codes "query ", (refl, refl))

tune-is-text : IsUtf8 (codes "tune ")
unfolding lib.Utf8.encode
tune-is-text = (codes "tune ", (refl, refl))

-- an end with a text is UTF-8
end-is-text : (end text : List ℕ) → EndsWithText end text → IsUtf8 end
end-is-text end text (inl e) = subst IsUtf8 (sym e.0) IsUtf8-nil
end-is-text end text (inr e) = subst IsUtf8 (sym e.0) (IsUtf8-append (32 ∷ []) text space-is-text e.1)

-- a word, digits and an end are UTF-8
numbered-is-text : (bytes word digits end : List ℕ) (n : ℕ) → IsUtf8 word → bytes ≡ word ++ (digits ++ end) → WritesNumber digits n → IsUtf8 end → IsUtf8 bytes
numbered-is-text bytes word digits end n text whole w ends =
    subst IsUtf8 (sym whole) (IsUtf8-append word (digits ++ end) text (IsUtf8-append digits end (IsUtf8-from_ascii digits (IsAscii-from_digits digits w.numeral.1)) ends))

-- so are a word and digits
alone-is-text : (bytes word digits : List ℕ) (n : ℕ) → IsUtf8 word → bytes ≡ word ++ digits → WritesNumber digits n → IsUtf8 bytes
alone-is-text bytes word digits n text whole w =
    subst IsUtf8 (sym whole) (IsUtf8-append word digits text (IsUtf8-from_ascii digits (IsAscii-from_digits digits w.numeral.1)))

-- a form of a call is UTF-8
call-is-text : (bytes : List ℕ) (call : Call) → IsFormOfCall bytes call → IsUtf8 bytes
call-is-text bytes (Add id text) f = numbered-is-text bytes (codes "add ") f.0 f.1 id add-is-text f.2 f.3 (end-is-text f.1 text f.4)
call-is-text bytes (Put id text) f = numbered-is-text bytes (codes "put ") f.0 f.1 id put-is-text f.2 f.3 (end-is-text f.1 text f.4)
call-is-text bytes (Delete id) f = alone-is-text bytes (codes "del ") f.0 id delete-is-text f.1 f.2
call-is-text bytes (Get id) f = alone-is-text bytes (codes "get ") f.0 id get-is-text f.1 f.2
call-is-text bytes (Find query) f =
    subst IsUtf8 (sym f.1) (IsUtf8-append (codes "find") f.0 find-is-text (end-is-text f.0 query f.2))
call-is-text bytes Place f = subst IsUtf8 (sym f) place-is-text
call-is-text bytes (Journal from) f = alone-is-text bytes (codes "journal ") f.0 from journal-is-text f.1 f.2
call-is-text bytes Stats f = subst IsUtf8 (sym f) stats-is-text
call-is-text bytes Recycle f = subst IsUtf8 (sym f) recycle-is-text
call-is-text bytes other f = absurd f

-- so is what ends a search
search-end-is-text : (end : List ℕ) (sought : Sought) → EndsWithSearch end sought → IsUtf8 end
search-end-is-text end (ByQuery text) e = end-is-text end text (inr e)
search-end-is-text end (ByWords text) e = end-is-text end text (inl e)

-- and a form of a search
search-is-text : (bytes : List ℕ) (told : Told) (sought : Sought) → IsFormOfSearch bytes told sought → IsUtf8 bytes
search-is-text bytes Ids (ByQuery text) f = subst IsUtf8 (sym f.0) (IsUtf8-append (codes "query ") text query-is-text f.1)
search-is-text bytes Ids (ByWords text) f = absurd f
search-is-text bytes Amount sought f = subst IsUtf8 (sym f.1) (IsUtf8-append (codes "count") f.0 count-is-text (search-end-is-text f.0 sought f.2))
search-is-text bytes (Last most) sought f = numbered-is-text bytes (codes "newest ") f.0 f.1 most newest-is-text f.2 f.3 (search-end-is-text f.1 sought f.4)
search-is-text bytes (First most) sought f = numbered-is-text bytes (codes "oldest ") f.0 f.1 most oldest-is-text f.2 f.3 (search-end-is-text f.1 sought f.4)

-- and each form
form-is-text : (bytes : List ℕ) (asked : Asked) → IsForm bytes asked → IsUtf8 bytes
form-is-text bytes (Calls call) f = call-is-text bytes call f
form-is-text bytes (Searches told sought) f = search-is-text bytes told sought f
form-is-text bytes (Tunes text) f = subst IsUtf8 (sym f.0) (IsUtf8-append (codes "tune ") text tune-is-text f.1)

-- behind `add` and a space stands what tells the add
call-of-add : (rest : List ℕ) → asked_of_text (codes "add " ++ rest) ≡ add_of rest
unfolding asked_of_text
call-of-add rest = refl

-- digits and an end tell the number and the text
add-of-digits : (digits end text : List ℕ) (id : ℕ) → WritesNumber digits id → EndsWithText end text → add_of (digits ++ end) ≡ Some (Calls (Add id text))
unfolding add_of
add-of-digits digits end text id w e =
    let split = split-digits digits end text w.numeral.1 e in
    ap (λ (t : List ℕ). option_map (λ (n : ℕ). Calls (Add n t)) (number_of (word_of (digits ++ end)))) split.1 ∙ ap (λ (d : List ℕ). option_map (λ (n : ℕ). Calls (Add n text)) (number_of d)) split.0 ∙ ap (option_map (λ (n : ℕ). Calls (Add n text))) (number_of-written digits id w)

-- so it is with `put`
call-of-put : (rest : List ℕ) → asked_of_text (codes "put " ++ rest) ≡ put_of rest
unfolding asked_of_text
call-of-put rest = refl

put-of-digits : (digits end text : List ℕ) (id : ℕ) → WritesNumber digits id → EndsWithText end text → put_of (digits ++ end) ≡ Some (Calls (Put id text))
unfolding put_of
put-of-digits digits end text id w e =
    let split = split-digits digits end text w.numeral.1 e in
    ap (λ (t : List ℕ). option_map (λ (n : ℕ). Calls (Put n t)) (number_of (word_of (digits ++ end)))) split.1 ∙ ap (λ (d : List ℕ). option_map (λ (n : ℕ). Calls (Put n text)) (number_of d)) split.0 ∙ ap (option_map (λ (n : ℕ). Calls (Put n text))) (number_of-written digits id w)

-- behind `del` and a space stands the number
call-of-delete : (rest : List ℕ) → asked_of_text (codes "del " ++ rest) ≡ delete_of rest
unfolding asked_of_text
call-of-delete rest = refl

-- digits tell the number of a delete
delete-of-digits : (digits : List ℕ) (id : ℕ) → WritesNumber digits id → delete_of digits ≡ Some (Calls (Delete id))
unfolding delete_of
delete-of-digits digits id w = ap (option_map (λ (n : ℕ). Calls (Delete n))) (number_of-written digits id w)

-- so it does behind `get`
call-of-get : (rest : List ℕ) → asked_of_text (codes "get " ++ rest) ≡ get_of rest
unfolding asked_of_text
call-of-get rest = refl

get-of-digits : (digits : List ℕ) (id : ℕ) → WritesNumber digits id → get_of digits ≡ Some (Calls (Get id))
unfolding get_of
get-of-digits digits id w = ap (option_map (λ (n : ℕ). Calls (Get n))) (number_of-written digits id w)

-- behind `journal` and a space stands the number
call-of-journal : (rest : List ℕ) → asked_of_text (codes "journal " ++ rest) ≡ journal_of rest
unfolding asked_of_text asked_of_search asked_of_rest
call-of-journal rest = refl

-- digits tell the number of a journal
journal-of-digits : (digits : List ℕ) (from : ℕ) → WritesNumber digits from → journal_of digits ≡ Some (Calls (Journal from))
unfolding journal_of
journal-of-digits digits from w = ap (option_map (λ (n : ℕ). Calls (Journal n))) (number_of-written digits from w)

-- `place` stands alone
call-of-place : asked_of_text (codes "place") ≡ Some (Calls Place)
unfolding asked_of_text asked_of_search asked_of_rest asked_of_word
call-of-place = refl

-- so does `stats`
call-of-stats : asked_of_text (codes "stats") ≡ Some (Calls Stats)
unfolding asked_of_text asked_of_search asked_of_rest asked_of_word
call-of-stats = refl

-- and `recycle`
call-of-recycle : asked_of_text (codes "recycle") ≡ Some (Calls Recycle)
unfolding asked_of_text asked_of_search asked_of_rest asked_of_word
call-of-recycle = refl

-- behind `find` stands the query
call-of-find : (end query : List ℕ) → EndsWithText end query → asked_of_text (codes "find" ++ end) ≡ Some (Calls (Find query))
unfolding asked_of_text asked_of_search
call-of-find end query (inl e) =
    ap (λ (x : List ℕ). asked_of_text (codes "find" ++ x)) e.0 ∙ ap (λ (t : List ℕ). Some (Calls (Find t))) (sym e.1)
call-of-find end query (inr e) = ap (λ (x : List ℕ). asked_of_text (codes "find" ++ x)) e.0

-- behind `query` and a space stands its text
asked-of-query : (text : List ℕ) → asked_of_text (codes "query " ++ text) ≡ Some (Searches Ids (ByQuery text))
unfolding asked_of_text asked_of_search query_of
asked-of-query text = refl

-- so it does behind `tune`
asked-of-tune : (text : List ℕ) → asked_of_text (codes "tune " ++ text) ≡ Some (Tunes text)
unfolding asked_of_text asked_of_search asked_of_rest tune_of
asked-of-tune text = refl

-- behind `count` stands what is counted
asked-of-count : (end : List ℕ) (sought : Sought) → EndsWithSearch end sought → asked_of_text (codes "count" ++ end) ≡ Some (Searches Amount sought)
unfolding asked_of_text asked_of_search
asked-of-count end (ByQuery text) e = ap (λ (x : List ℕ). asked_of_text (codes "count" ++ x)) e.0
asked-of-count end (ByWords text) e =
    ap (λ (x : List ℕ). asked_of_text (codes "count" ++ x)) e.0 ∙ ap (λ (t : List ℕ). Some (Searches Amount (ByWords t))) (sym e.1)

-- digits and what ends a search are read as the two
record IsSplit (digits end : List ℕ) (sought : Sought) : Type 0 where
  pub word : word_of (digits ++ end) ≡ digits
  pub kept : sought_in (digits ++ end) ≡ sought

split-search : (digits end : List ℕ) (n : ℕ) (sought : Sought) → WritesNumber digits n → EndsWithSearch end sought → IsSplit digits end sought
split-search digits end n (ByQuery text) w e =
    let split = split-digits digits end text w.numeral.1 (inr e) in
    let more : word_of (digits ++ end) ≡ digits ++ end → ⊥ = λ same. omega (arith, ap length (sym split.0 ∙ same), length-append digits end, ap length e.0) in
    let test : bytes_eq (word_of (digits ++ end)) (digits ++ end) ≡ false =
    not_from_test (bytes_eq (word_of (digits ++ end)) (digits ++ end)) (λ is. more ((bytes_eq-Decides (word_of (digits ++ end)) (digits ++ end)).0 is)) in
    record {
      word = split.0;
      kept = ap (λ (b : Bool). cond b (ByWords []) (ByQuery (after_space (digits ++ end)))) test ∙ ap ByQuery split.1;
    }
split-search digits end n (ByWords text) w e =
    let split = split-digits digits end text w.numeral.1 (inl e) in
    let same : word_of (digits ++ end) ≡ digits ++ end = split.0 ∙ sym (ap (λ (x : List ℕ). digits ++ x) e.0 ∙ append-nil digits) in
    let test : bytes_eq (word_of (digits ++ end)) (digits ++ end) ≡ true = (bytes_eq-Decides (word_of (digits ++ end)) (digits ++ end)).1 same in
    record {
      word = split.0;
      kept = ap (λ (b : Bool). cond b (ByWords []) (ByQuery (after_space (digits ++ end)))) test ∙ ap ByWords (sym e.1);
    }

-- behind `newest` and a space stands a number
asked-of-newest : (rest : List ℕ) → asked_of_text (codes "newest " ++ rest) ≡ newest_of rest
unfolding asked_of_text asked_of_search
asked-of-newest rest = refl

newest-of-digits : (digits end : List ℕ) (most : ℕ) (sought : Sought) → WritesNumber digits most → EndsWithSearch end sought →
    newest_of (digits ++ end) ≡ Some (Searches (Last most) sought)
unfolding newest_of
newest-of-digits digits end most sought w e =
    let is = split-search digits end most sought w e in
    ap (λ (s : Sought). option_map (λ (n : ℕ). Searches (Last n) s) (number_of (word_of (digits ++ end)))) is.kept ∙ ap (λ (d : List ℕ). option_map (λ (n : ℕ). Searches (Last n) sought) (number_of d)) is.word ∙ ap (option_map (λ (n : ℕ). Searches (Last n) sought)) (number_of-written digits most w)

-- so it does behind `oldest`
asked-of-oldest : (rest : List ℕ) → asked_of_text (codes "oldest " ++ rest) ≡ oldest_of rest
unfolding asked_of_text asked_of_search
asked-of-oldest rest = refl

oldest-of-digits : (digits end : List ℕ) (most : ℕ) (sought : Sought) → WritesNumber digits most → EndsWithSearch end sought →
    oldest_of (digits ++ end) ≡ Some (Searches (First most) sought)
unfolding oldest_of
oldest-of-digits digits end most sought w e =
    let is = split-search digits end most sought w e in
    ap (λ (s : Sought). option_map (λ (n : ℕ). Searches (First n) s) (number_of (word_of (digits ++ end)))) is.kept ∙ ap (λ (d : List ℕ). option_map (λ (n : ℕ). Searches (First n) sought) (number_of d)) is.word ∙ ap (option_map (λ (n : ℕ). Searches (First n) sought)) (number_of-written digits most w)

-- a form of a call is read as the call
call-of-form : (bytes : List ℕ) (call : Call) → IsFormOfCall bytes call → asked_of_text bytes ≡ Some (Calls call)
call-of-form bytes (Add id text) f =
    ap asked_of_text f.2 ∙ call-of-add (f.0 ++ f.1) ∙ add-of-digits f.0 f.1 text id f.3 f.4
call-of-form bytes (Put id text) f =
    ap asked_of_text f.2 ∙ call-of-put (f.0 ++ f.1) ∙ put-of-digits f.0 f.1 text id f.3 f.4
call-of-form bytes (Delete id) f = ap asked_of_text f.1 ∙ call-of-delete f.0 ∙ delete-of-digits f.0 id f.2
call-of-form bytes (Get id) f = ap asked_of_text f.1 ∙ call-of-get f.0 ∙ get-of-digits f.0 id f.2
call-of-form bytes (Find query) f = ap asked_of_text f.1 ∙ call-of-find f.0 query f.2
call-of-form bytes Place f = ap asked_of_text f ∙ call-of-place
call-of-form bytes (Journal from) f = ap asked_of_text f.1 ∙ call-of-journal f.0 ∙ journal-of-digits f.0 from f.2
call-of-form bytes Stats f = ap asked_of_text f ∙ call-of-stats
call-of-form bytes Recycle f = ap asked_of_text f ∙ call-of-recycle
call-of-form bytes other f = absurd f

-- so is one of a search
search-of-form : (bytes : List ℕ) (told : Told) (sought : Sought) → IsFormOfSearch bytes told sought → asked_of_text bytes ≡ Some (Searches told sought)
search-of-form bytes Ids (ByQuery text) f = ap asked_of_text f.0 ∙ asked-of-query text
search-of-form bytes Ids (ByWords text) f = absurd f
search-of-form bytes Amount sought f = ap asked_of_text f.1 ∙ asked-of-count f.0 sought f.2
search-of-form bytes (Last most) sought f = ap asked_of_text f.2 ∙ asked-of-newest (f.0 ++ f.1) ∙ newest-of-digits f.0 f.1 most sought f.3 f.4
search-of-form bytes (First most) sought f = ap asked_of_text f.2 ∙ asked-of-oldest (f.0 ++ f.1) ∙ oldest-of-digits f.0 f.1 most sought f.3 f.4

-- a form is read as that of which it is one
asked-of-form : (bytes : List ℕ) (asked : Asked) → IsForm bytes asked → asked_of_text bytes ≡ Some asked
asked-of-form bytes (Calls call) f = call-of-form bytes call f
asked-of-form bytes (Searches told sought) f = search-of-form bytes told sought f
asked-of-form bytes (Tunes text) f = ap asked_of_text f.0 ∙ asked-of-tune text

-- a line with a form is read as that of which it has one
read-form : (line : List ℕ) (asked : Asked) → HasForm line asked → form_of line ≡ Some asked
read-form line asked h =
    let same : without_return line ≡ h.bytes = dropped line h.bytes h.dropped in
    form_of-text line h.short (subst IsUtf8 (sym same) (form-is-text h.bytes asked h.form)) ∙ ap asked_of_text same ∙ asked-of-form h.bytes asked h.form

-- a line is read as that of which it has a form, and as nothing else
pub read-by-forms : (line : List ℕ) → IsReadByForms line
read-by-forms line = λ asked. (has-form line asked, read-form line asked)
