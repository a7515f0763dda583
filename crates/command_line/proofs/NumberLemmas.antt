-- Numbers as words write them, and as they are read.
use Rattle.std.proofs.Common.{◌≤◌, ◌≡◌, ◌∙◌, ◌<◌, ◌^◌, ◌==◌, ℕ, Bool, codes, cond, true, false, refl, sym, ap, subst, inl, inr, arith, ◌⊎◌, List, [], ◌∷◌, drop, Option, Some, None, Result, Ok, Err}
use Rattle.std.specs.Prelude.{pos, unwrap_or}
use Rattle.std.specs.Option.{IsSomeAnd, option_map_or}
use Rattle.std.specs.Str.{bytes_eq}
use Rattle.std.specs.Str.Parse.{IsNumeral, ParsesUnsigned, digits_value, starts_with_minus, without_leading_plus}
use Rattle.std.proofs.lemmas.Bool.{ne_eqb}
use Rattle.std.proofs.lemmas.Int.{ints}
use Rattle.std.proofs.lemmas.Str.Parse.{digit_from_value}
use Rattle.clap.specs.Lexer.{without_minus}
use Rattle.clap.specs.Matches.{ReadsOne, one_text}
use Rattle.clap.specs.Values.{IsSignedIn, read_as}
use Rattle.clap.specs.Walk.{Row, Rule, Text, one_of, reading_by, rows_of}
use Rattle.clap.specs.declared.parser.matches.Found.{Found}
use Rattle.clap.proofs.WalkLemmas.{one_text-rows}
use Rattle.command_line.specs.Commands.{HasFitNumbers, HasLoadNumbers, HasNumber, HasServeNumbers, IsFitInRange, IsGivenOrNot, IsLoadInRange, IsServeInRange, fit_of, is_given, load_of, option_number, serve_of}
use Rattle.command_line.specs.declared.command.FitCommand.{FitCommand}
use Rattle.command_line.specs.declared.command.LoadCommand.{LoadCommand}
use Rattle.command_line.specs.declared.command.ServeCommand.{ServeCommand}
use Rattle.funnel_model.specs.declared.config.TheConstants.{MOST_PASSES}
use Rattle.load_gen.specs.declared.limits.TheConstants.{MOST_DOCS, MOST_WORDS}
use Rattle.command_line.specs.declared.command.TheConstants.{MOST_CONNECTIONS, MOST_FITTED, MOST_IDLE, MOST_PORT}
use Rattle.command_line.proofs.FoundValues.{HasValue}

without_minus-cond : (t : List ℕ) → without_minus t ≡ cond (starts_with_minus t) (drop 1 t) t
without_minus-cond [] = refl
without_minus-cond (x ∷ xs) = go (x == 45)
  where
    go : (b : Bool) → unwrap_or (cond b (Some xs) None) (x ∷ xs) ≡ cond b xs (x ∷ xs)
    go true = refl
    go false = refl

no_plus : (ds : List ℕ) → IsNumeral 10 ds → without_leading_plus ds ≡ ds
no_plus [] h = refl
no_plus (d ∷ ds) h =
    let plus : (d == 43) ≡ false = ne_eqb _ _ (λ e. omega (arith, digit_from_value d h.1.0)) in
    ap (λ (b : Bool). drop (cond b 1 0) (d ∷ ds)) plus

abbrev pub IsNumber : ℕ → ℕ → Text → Type 0
IsNumber low high text = IsNumeral 10 (without_leading_plus text) × (low ≤ digits_value 10 (without_leading_plus text)) × (digits_value 10 (without_leading_plus text) ≤ high)

-- a text that passed a range of numbers is one, once a minus before zero is dropped
pub signed_number : (low high : ℕ) (t : Text) → IsSignedIn (pos low) (pos high) t → IsNumber low high (without_minus t)
signed_number low high t passed = subst (IsNumber low high) (sym (without_minus-cond t)) (go (starts_with_minus t) refl)
  where
    go : (b : Bool) → starts_with_minus t ≡ b → IsNumber low high (cond b (drop 1 t) t)
    go true minus =
        let low_ok = rw minus at passed.2 in
        let high_ok = rw minus at passed.3 in
        let numeral : IsNumeral 10 (drop 1 t) = rw minus at passed.0 in
        let same = no_plus (drop 1 t) numeral in
        let least : low ≤ digits_value 10 (drop 1 t) = omega (arith, ints) in
        let most : digits_value 10 (drop 1 t) ≤ high = omega (arith, ints) in
        (rw same numeral, rw same least, rw same most)
    go false minus =
        let low_ok = rw minus at passed.2 in
        let high_ok = rw minus at passed.3 in
        let numeral = rw minus at passed.0 in
        (numeral, omega (arith, ints), omega (arith, ints))

-- an option has the number that its value is
pub number_in : (low high : ℕ) (a : Rule) (id : Text) (rows : List Row) → (value : HasValue a id rows) → IsNumber low high (read_as (reading_by a) value.value) → HasNumber low high id rows
number_in low high a id rows value is = subst (λ (o : Option Text). IsSomeAnd o (IsNumber low high)) (sym value.reads) is

number_read : {E : Type 0} (G : List ℕ → Result ℕ E → Type 0) (bits low high : ℕ) (text : Text) (r : Option ℕ) → high < 2 ^ bits → ReadsOne G text r
    → ((u : List ℕ) (x : Result ℕ E) → G u x → ParsesUnsigned bits 10 u x) → IsNumber low high text → r ≡ Some (digits_value 10 (without_leading_plus text))
number_read G bits low high text (Some n) fits read only is = ap (λ (x : ℕ). Some x) (only text (Ok n) read).1
number_read G bits low high text None fits read only is =
    let small : digits_value 10 (without_leading_plus text) < 2 ^ bits = omega (arith, is.2, fits) in
    absurd (only text (Err read.0) read.1 (is.0, small))

-- what `get_one` reads of an option that has a number
pub option_read : {E : Type 0} (G : List ℕ → Result ℕ E → Type 0) (bits low high : ℕ) (id : Text) (found : Found) (r : Option ℕ) → high < 2 ^ bits → HasNumber low high id (rows_of found)
    → ((t : List ℕ) → one_text found id ≡ Some t → ReadsOne G t r) → ((u : List ℕ) (x : Result ℕ E) → G u x → ParsesUnsigned bits 10 u x) → r ≡ Some (option_number id (rows_of found))
option_read G bits low high id found r fits has reads only = go (one_of id (rows_of found)) refl has
  where
    go : (o : Option Text) → one_of id (rows_of found) ≡ o → IsSomeAnd o (IsNumber low high) → r ≡ Some (option_number id (rows_of found))
    go None is h = absurd h
    go (Some t) is h =
        number_read G bits low high t r fits (reads t (one_text-rows found id ∙ is)) only h
        ∙ ap (λ (o : Option Text). Some (digits_value 10 (without_leading_plus (unwrap_or o [])))) (sym is)

-- what `get_flag` reads of an option without a value
pub flag_read : (id : Text) (found : Found) (r : Bool) → IsGivenOrNot id (rows_of found) → (one_text found id ≡ Some (codes "true") → r ≡ true)
    → (one_text found id ≡ Some (codes "false") → r ≡ false) → r ≡ is_given id (rows_of found)
flag_read id found r has if_true if_false = go (one_of id (rows_of found)) refl has
  where
    go : (o : Option Text) → one_of id (rows_of found) ≡ o → IsSomeAnd o (λ text. (text ≡ codes "true") ⊎ (text ≡ codes "false")) → r ≡ is_given id (rows_of found)
    go None is h = absurd h
    go (Some t) is (inl given) =
        if_true (one_text-rows found id ∙ is ∙ ap (λ (x : Text). Some x) given)
        ∙ ap (λ (o : Option Text). option_map_or (λ text. bytes_eq text (codes "true")) o false) (sym (is ∙ ap (λ (x : Text). Some x) given))
    go (Some t) is (inr not_given) =
        if_false (one_text-rows found id ∙ is ∙ ap (λ (x : Text). Some x) not_given)
        ∙ ap (λ (o : Option Text). option_map_or (λ text. bytes_eq text (codes "true")) o false) (sym (is ∙ ap (λ (x : Text). Some x) not_given))

-- the number that an option has lies in its range
number_in_range : (low high : ℕ) (id : Text) (rows : List Row) → HasNumber low high id rows → (low ≤ option_number id rows) × (option_number id rows ≤ high)
number_in_range low high id rows has = go (one_of id rows) has
  where
    go : (o : Option Text) → IsSomeAnd o (IsNumber low high)
        → (low ≤ digits_value 10 (without_leading_plus (unwrap_or o []))) × (digits_value 10 (without_leading_plus (unwrap_or o [])) ≤ high)
    go None h = absurd h
    go (Some t) h = (h.1, h.2)

pub serve_in_range : (found : List Row) → HasServeNumbers found → IsServeInRange (serve_of found)
serve_in_range found has =
    let port = number_in_range 1 MOST_PORT (codes "port") found has.port in
    let workers = number_in_range 1 MOST_PASSES (codes "workers") found has.workers in
    let connections = number_in_range 1 MOST_CONNECTIONS (codes "connections") found has.connections in
    let idle = number_in_range 0 MOST_IDLE (codes "idle") found has.idle in
    record { some_port = port.0; is_port = port.1; some_workers = workers.0; few_workers = workers.1; some_connections = connections.0; few_connections = connections.1; few_seconds = idle.1 }

pub load_in_range : (found : List Row) → HasLoadNumbers found → IsLoadInRange (load_of found)
load_in_range found has =
    let docs = number_in_range 1 MOST_DOCS (codes "docs") found has.docs in
    let workers = number_in_range 1 MOST_PASSES (codes "workers") found has.workers in
    let words = number_in_range 0 MOST_WORDS (codes "words") found has.words in
    record { some_docs = docs.0; few_docs = docs.1; some_workers = workers.0; few_workers = workers.1; few_words = words.1 }

pub fit_in_range : (found : List Row) → HasFitNumbers found → IsFitInRange (fit_of found)
fit_in_range found has =
    let documents = number_in_range 1 MOST_FITTED (codes "documents") found has.documents in
    record { some_documents = documents.0; few_documents = documents.1 }

-- a serve with the numbers of its options is the one that was found
pub serve_is : (found : List Row) (port workers connections idle : ℕ) (one_port http : Bool) → port ≡ option_number (codes "port") found → workers ≡ option_number (codes "workers") found →
    connections ≡ option_number (codes "connections") found → idle ≡ option_number (codes "idle") found → one_port ≡ is_given (codes "one-port") found → http ≡ is_given (codes "http") found →
    ◌≡◌ {A = ServeCommand} (record { port = port; workers = workers; connections = connections; idle = idle; one_port = one_port; http = http }) (serve_of found)
serve_is found port workers connections idle one_port http p w c d o h = λ i. record { port = p i; workers = w i; connections = c i; idle = d i; one_port = o i; http = h i }

-- and so is a load
pub load_is : (found : List Row) (docs workers words seed : ℕ) → docs ≡ option_number (codes "docs") found → workers ≡ option_number (codes "workers") found →
    words ≡ option_number (codes "words") found → seed ≡ option_number (codes "seed") found →
    ◌≡◌ {A = LoadCommand} (record { docs = docs; workers = workers; words = words; seed = seed }) (load_of found)
load_is found docs workers words seed d k w s = λ i. record { docs = d i; workers = k i; words = w i; seed = s i }

-- and a fit
pub fit_is : (found : List Row) (documents : ℕ) → documents ≡ option_number (codes "documents") found → ◌≡◌ {A = FitCommand} (record { documents = documents }) (fit_of found)
fit_is found documents d = λ i. record { documents = d i }
