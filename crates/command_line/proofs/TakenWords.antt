-- What `clap` takes of funnel's own command line.
use Rattle.std.proofs.Common.{◌≡◌, ◌≢◌, ◌∙◌, ◌⊎◌, ◌||◌, ℕ, Bool, codes, true, false, refl, sym, ap, ap₂, subst, inl, inr, arith, List, [], ◌∷◌, Option, Some, None, IfSome, slice_index, Result, Ok, Err, IfOk, IsErrAnd, IsErrOf}
use Rattle.std.specs.Prelude.{find, option_and_then, option_map}
use Rattle.std.specs.List.{AllByRecursion, list_all}
use Rattle.std.specs.Option.{IsSomeAnd, ok_or, option_map_or}
use Rattle.std.specs.Str.{bytes_eq}
use Rattle.std.proofs.lemmas.Slice.Eq.{bytes_eq-Decides}
use Rattle.clap.specs.Walk.{Row, Rule, Text, answers_to, arg_by_id, has_row, nothing_held, one_of, reading_by, rows_after, settled, walk, walk_from}
use Rattle.clap.specs.Simple.{Shape, argument_words, built, built_leaf, entered, filled, help_rule, help_shape, inherited, is_simple, label_of, marked_built, names_of, rows_at, subcommand_of, with_leaf_noted}
use Rattle.clap.specs.Takes.{default_passes, entered_passes, is_given, is_valid, level_passes, settle_passes, takes, value_passes, walk_passes}
use Rattle.clap.specs.Faults.{fault_of, is_simple_and_free}
use Rattle.clap.proofs.OnLiterals.{clap_on_literals}
use Rattle.clap.proofs.ValueTestLemmas.{accepts-Accepts}
use Rattle.clap.specs.Values.{read_as}
use Rattle.clap.specs.ValueTests.{accepts}
use Rattle.clap.specs.declared.builder.value_parser.Reading.TheVariants.{AsWritten, WithoutMinus}
use Rattle.clap.specs.declared.builder.value_parser.ValueParser.TheVariants as vp
use Rattle.funnel_model.specs.declared.config.TheConstants.{MOST_PASSES}
use Rattle.load_gen.specs.declared.limits.TheConstants.{MOST_DOCS, MOST_WORDS}
use Rattle.command_line.specs.declared.command.TheConstants.{MOST_CONNECTIONS, MOST_FITTED, MOST_IDLE, MOST_PORT}
use Rattle.clap.specs.Words.{App, HasMatchesOf, subcommand_rows_of}
use Rattle.clap.specs.declared.parser.matches.ArgMatches.{ArgMatches}
use Rattle.clap.specs.declared.error.kind.ErrorKind.{ErrorKind}
use Rattle.clap.specs.declared.error.kind.ErrorKind.TheVariants.{OutOfMemory}
use Rattle.command_line.specs.declared.command.Command.{Command}
use Rattle.command_line.specs.declared.command.CommandFault.{CommandFault}
use Rattle.command_line.specs.declared.command.CommandFault.TheVariants.{Memory, Usage}
use Rattle.command_line.proofs.NumberLemmas.{IsNumber, number_in, signed_number}
use Rattle.command_line.specs.Commands.{HasFitNumbers, HasLoadNumbers, HasNumber, HasNumbers, HasServeNumbers, IsGivenOrNot, call_words, command_of, connections_option, docs_option, documents_option, fault_by, fit_form, funnel_app, http_option, idle_option, load_form, load_workers_option, numbers_between, one_port_option, port_option, run_form, seed_option, serve_form, subcommand_as, words_option, workers_option}
use Rattle.command_line.proofs.Faultless.{all_of_two, both, built_taken, is_open}
use Rattle.command_line.proofs.FoundValues.{AllFit, Belongs, defaults-fit, defaults-there, found_has, given-there, has_value, settled-fits, walk-fits}

-- ---- the command line itself

pub app_is_free : is_simple_and_free funnel_app ≡ true
unfolding clap_on_literals
app_is_free = refl

pub app_is_simple : is_simple funnel_app ≡ true
unfolding clap_on_literals
app_is_simple = refl

top_is_open : is_open (built funnel_app).top ≡ true
unfolding clap_on_literals
top_is_open = refl

subcommands_are_open : list_all is_open (built funnel_app).subs ≡ true
unfolding clap_on_literals
subcommands_are_open = refl

-- where no kind of error comes, the words are taken
pub faultless_is_taken : (words : List Text) → fault_of funnel_app words ≡ [] → takes funnel_app words ≡ true
faultless_is_taken words e = all_of_two _ _ app_is_simple (built_taken (built funnel_app) (argument_words funnel_app words) top_is_open subcommands_are_open e)

-- ---- the options of a subcommand

-- a form of a subcommand, as building leaves it
abbrev pub built_form : Shape → Shape
built_form form = built_leaf (inherited (with_leaf_noted (marked_built funnel_app.top)) form)

-- what words that pass give the options of a form: each has values that passed its parser, and what has to be given is
record AreFound (form : Shape) (words : List Text) : Type 0 where
  pub fit : AllFit form.rules (rows_after form.rules [] words)
  pub valid : is_valid form (rows_after form.rules [] words) false ≡ true

are_found : (form : Shape) (words : List Text) → AllByRecursion (Belongs form.rules) form.rules → level_passes form [] nothing_held words false ≡ true → AreFound form words
are_found form words all e =
    let rules = form.rules in
    let again = form.args_override_self in
    let end = (walk rules [] nothing_held words).held in
    let walked = both (walk_passes form [] (walk_from nothing_held) words) _ e in
    let ends = both (settle_passes rules again end) _ walked.1 in
    let rest = both (list_all default_passes rules) _ ends.1 in
    let walk_fits : AllFit rules end.rows = walk-fits form [] all (walk_from nothing_held) words walked.0 tt in
    record {
      fit = defaults-fit rules rules (settled rules end).rows all rest.0 (settled-fits rules again all end ends.0 walk_fits);
      valid = rest.1;
    }

-- the rows of a form before the defaults
abbrev rows_given : Shape → List Text → List Row
rows_given form words = (settled form.rules (walk form.rules [] nothing_held words).held).rows

module _ (rules : List Rule) (rows : List Row) (fits : AllFit rules rows) where
  -- an option of numbers that has a row has a number
  signed : (low high : ℕ) (a : Rule) (id : Text) → arg_by_id rules id ≡ Some a → reading_by a ≡ WithoutMinus →
      ((text : Text) → value_passes a text ≡ true → accepts false (numbers_between low high) text ≡ true) → has_row id rows ≡ true → HasNumber low high id rows
  signed low high a id own reads passes there =
      let value = has_value rules a id rows own fits there in
      let passed = accepts-Accepts false (numbers_between low high) value.value (passes value.value value.pass) in
      number_in low high a id rows value (subst (λ how. IsNumber low high (read_as how value.value)) (sym reads) (signed_number low high value.value passed))

  unsigned : (low high : ℕ) (a : Rule) (id : Text) → arg_by_id rules id ≡ Some a → reading_by a ≡ AsWritten →
      ((text : Text) → value_passes a text ≡ true → accepts false (vp.Unsigned low high) text ≡ true) → has_row id rows ≡ true → HasNumber low high id rows
  unsigned low high a id own reads passes there =
      let value = has_value rules a id rows own fits there in
      let passed = accepts-Accepts false (vp.Unsigned low high) value.value (passes value.value value.pass) in
      number_in low high a id rows value (subst (λ how. IsNumber low high (read_as how value.value)) (sym reads) (passed.0, passed.2, passed.3))

  -- one without a value that has a row was given or not
  given_or_not : (a : Rule) (id : Text) → arg_by_id rules id ≡ Some a → reading_by a ≡ AsWritten →
      ((text : Text) → value_passes a text ≡ true → accepts false vp.Bool text ≡ true) → has_row id rows ≡ true → IsGivenOrNot id rows
  given_or_not a id own reads passes there =
      let value = has_value rules a id rows own fits there in
      let read : one_of id rows ≡ Some value.value = value.reads ∙ ap (λ how. Some (read_as how value.value)) reads in
      subst (λ (o : Option Text). IsSomeAnd o (λ text. (text ≡ codes "true") ⊎ (text ≡ codes "false"))) (sym read)
      (one_of_two value.value (bytes_eq value.value (codes "true")) refl (passes value.value value.pass)) where
        one_of_two : (text : Text) (b : Bool) → bytes_eq text (codes "true") ≡ b → (bytes_eq text (codes "true") || bytes_eq text (codes "false")) ≡ true
            → (text ≡ codes "true") ⊎ (text ≡ codes "false")
        one_of_two text true is either = inl ((bytes_eq-Decides text (codes "true")).0 is)
        one_of_two text false is either = inr ((bytes_eq-Decides text (codes "false")).0 (subst (λ b. (b || bytes_eq text (codes "false")) ≡ true) is either))

-- ---- the options of `serve`

abbrev serve_rules : List Rule
serve_rules = (built_form serve_form).rules

abbrev port : Rule
port = filled port_option

abbrev workers : Rule
workers = filled workers_option

abbrev connections : Rule
connections = filled connections_option

abbrev idle : Rule
idle = filled idle_option

abbrev one_port : Rule
one_port = filled one_port_option

abbrev http : Rule
http = filled http_option

serve_rules_belong : AllByRecursion (Belongs serve_rules) serve_rules
serve_rules_belong = (
  record { own = refl; kind = inl (refl, omega arith) },
  (
    record { own = refl; kind = inl (refl, omega arith) },
    (
      record { own = refl; kind = inl (refl, omega arith) },
      (
        record { own = refl; kind = inl (refl, omega arith) },
        (
          record { own = refl; kind = inr (inl (refl, omega arith)) },
          (record { own = refl; kind = inr (inl (refl, omega arith)) }, (record { own = refl; kind = inr (inr refl) }, tt)),
        ),
      ),
    ),
  ),
)

port_and_workers_are_given : (rows : List Row) → is_valid (built_form serve_form) rows false ≡ true → (is_given (codes "port") rows ≡ true) × (is_given (codes "workers") rows ≡ true)
port_and_workers_are_given rows e =
    let given = both (is_given (codes "port") rows) _ e in
    (given.0, (both (is_given (codes "workers") rows) _ given.1).0)

serve_numbers : (words : List Text) → level_passes (built_form serve_form) [] nothing_held words false ≡ true → HasServeNumbers (rows_after serve_rules [] words)
serve_numbers words e =
    let found = are_found (built_form serve_form) words serve_rules_belong e in
    let rows = rows_after serve_rules [] words in
    let given = port_and_workers_are_given rows found.valid in
    let before = rows_given (built_form serve_form) words in
    let connections_default = defaults-there (port ∷ workers ∷ []) (idle ∷ one_port ∷ http ∷ filled help_rule ∷ []) connections before (omega arith) in
    let idle_default = defaults-there (port ∷ workers ∷ connections ∷ []) (one_port ∷ http ∷ filled help_rule ∷ []) idle before (omega arith) in
    let one_port_default = defaults-there (port ∷ workers ∷ connections ∷ idle ∷ []) (http ∷ filled help_rule ∷ []) one_port before (omega arith) in
    let http_default = defaults-there (port ∷ workers ∷ connections ∷ idle ∷ one_port ∷ []) (filled help_rule ∷ []) http before (omega arith) in
    record {
      port = signed serve_rules rows found.fit 1 MOST_PORT port (codes "port") refl refl (λ text pass. pass) (given-there (codes "port") rows given.0);
      workers = signed serve_rules rows found.fit 1 MOST_PASSES workers (codes "workers") refl refl (λ text pass. pass) (given-there (codes "workers") rows given.1);
      connections = unsigned serve_rules rows found.fit 1 MOST_CONNECTIONS connections (codes "connections") refl refl (λ text pass. pass) connections_default;
      idle = signed serve_rules rows found.fit 0 MOST_IDLE idle (codes "idle") refl refl (λ text pass. pass) idle_default;
      one_port = given_or_not serve_rules rows found.fit one_port (codes "one-port") refl refl (λ text pass. pass) one_port_default;
      http = given_or_not serve_rules rows found.fit http (codes "http") refl refl (λ text pass. pass) http_default;
    }

-- ---- the options of `load`

abbrev load_rules : List Rule
load_rules = (built_form load_form).rules

abbrev docs : Rule
docs = filled docs_option

abbrev sharers : Rule
sharers = filled load_workers_option

abbrev words_in_each : Rule
words_in_each = filled words_option

abbrev seed : Rule
seed = filled seed_option

load_rules_belong : AllByRecursion (Belongs load_rules) load_rules
load_rules_belong = (
  record { own = refl; kind = inl (refl, omega arith) },
  (
    record { own = refl; kind = inl (refl, omega arith) },
    (
      record { own = refl; kind = inl (refl, omega arith) },
      (
        record { own = refl; kind = inl (refl, omega arith) },
        (record { own = refl; kind = inr (inr refl) }, tt),
      ),
    ),
  ),
)

docs_is_given : (rows : List Row) → is_valid (built_form load_form) rows false ≡ true → is_given (codes "docs") rows ≡ true
docs_is_given rows e = (both (is_given (codes "docs") rows) _ e).0

load_numbers : (words : List Text) → level_passes (built_form load_form) [] nothing_held words false ≡ true → HasLoadNumbers (rows_after load_rules [] words)
load_numbers words e =
    let found = are_found (built_form load_form) words load_rules_belong e in
    let rows = rows_after load_rules [] words in
    let before = rows_given (built_form load_form) words in
    let workers_default = defaults-there (docs ∷ []) (words_in_each ∷ seed ∷ filled help_rule ∷ []) sharers before (omega arith) in
    let words_default = defaults-there (docs ∷ sharers ∷ []) (seed ∷ filled help_rule ∷ []) words_in_each before (omega arith) in
    let seed_default = defaults-there (docs ∷ sharers ∷ words_in_each ∷ []) (filled help_rule ∷ []) seed before (omega arith) in
    record {
      docs = signed load_rules rows found.fit 1 MOST_DOCS docs (codes "docs") refl refl (λ text pass. pass) (given-there (codes "docs") rows (docs_is_given rows found.valid));
      workers = signed load_rules rows found.fit 1 MOST_PASSES sharers (codes "workers") refl refl (λ text pass. pass) workers_default;
      words = signed load_rules rows found.fit 0 MOST_WORDS words_in_each (codes "words") refl refl (λ text pass. pass) words_default;
      seed = unsigned load_rules rows found.fit 0 18446744073709551615 seed (codes "seed") refl refl (λ text pass. pass) seed_default;
    }

-- ---- the option of `fit`

abbrev fit_rules : List Rule
fit_rules = (built_form fit_form).rules

abbrev documents : Rule
documents = filled documents_option

fit_rules_belong : AllByRecursion (Belongs fit_rules) fit_rules
fit_rules_belong = (record { own = refl; kind = inl (refl, omega arith) }, (record { own = refl; kind = inr (inr refl) }, tt))

documents_is_given : (rows : List Row) → is_valid (built_form fit_form) rows false ≡ true → is_given (codes "documents") rows ≡ true
documents_is_given rows e = (both (is_given (codes "documents") rows) _ e).0

fit_numbers : (words : List Text) → level_passes (built_form fit_form) [] nothing_held words false ≡ true → HasFitNumbers (rows_after fit_rules [] words)
fit_numbers words e =
    let found = are_found (built_form fit_form) words fit_rules_belong e in
    let rows = rows_after fit_rules [] words in
    let there = given-there (codes "documents") rows (documents_is_given rows found.valid) in
    record { documents = signed fit_rules rows found.fit 1 MOST_FITTED documents (codes "documents") refl refl (λ text pass. pass) there }

-- ---- the subcommand that words name

-- names that begin with other letters are not the same
other_name : (a b : Text) → (slice_index a 0 ≡ slice_index b 0 → ⊥) → a ≡ b → ⊥
other_name a b other same = other (ap (λ (t : Text). slice_index t 0) same)

abbrev FindsNumbers : List Text → Shape → Type 0
FindsNumbers words s = level_passes s [] nothing_held words false ≡ true → HasNumbers (rows_at s words)

run_finds_none : (words : List Text) → FindsNumbers words (built_form run_form)
run_finds_none words e = record {
  serve = λ is. absurd (other_name (codes "run") (codes "serve") (λ same. omega (arith, same)) is);
  load = λ is. absurd (other_name (codes "run") (codes "load") (λ same. omega (arith, same)) is);
  fit = λ is. absurd (other_name (codes "run") (codes "fit") (λ same. omega (arith, same)) is);
}

serve_finds : (words : List Text) → FindsNumbers words (built_form serve_form)
serve_finds words e = record {
  serve = λ is. serve_numbers words e;
  load = λ is. absurd (other_name (codes "serve") (codes "load") (λ same. omega (arith, same)) is);
  fit = λ is. absurd (other_name (codes "serve") (codes "fit") (λ same. omega (arith, same)) is);
}

load_finds : (words : List Text) → FindsNumbers words (built_form load_form)
load_finds words e = record {
  serve = λ is. absurd (other_name (codes "load") (codes "serve") (λ same. omega (arith, same)) is);
  load = λ is. load_numbers words e;
  fit = λ is. absurd (other_name (codes "load") (codes "fit") (λ same. omega (arith, same)) is);
}

fit_finds : (words : List Text) → FindsNumbers words (built_form fit_form)
fit_finds words e = record {
  serve = λ is. absurd (other_name (codes "fit") (codes "serve") (λ same. omega (arith, same)) is);
  load = λ is. absurd (other_name (codes "fit") (codes "load") (λ same. omega (arith, same)) is);
  fit = λ is. fit_numbers words e;
}

help_finds_none : (words : List Text) → FindsNumbers words (built_leaf help_shape)
help_finds_none words e = record {
  serve = λ is. absurd (other_name (codes "help") (codes "serve") (λ same. omega (arith, same)) is);
  load = λ is. absurd (other_name (codes "help") (codes "load") (λ same. omega (arith, same)) is);
  fit = λ is. absurd (other_name (codes "help") (codes "fit") (λ same. omega (arith, same)) is);
}

all_find : (words : List Text) → AllByRecursion (FindsNumbers words) (built funnel_app).subs
all_find words = (run_finds_none words, (serve_finds words, (load_finds words, (fit_finds words, (help_finds_none words, tt)))))

entered_numbers : (stop : Option (Text × List Text)) → entered_passes (built funnel_app) stop ≡ true → IfSome (entered (built funnel_app) stop) HasNumbers
entered_numbers None e = tt
entered_numbers (Some p) e = go (find (λ s. answers_to p.0 (label_of s)) (built funnel_app).subs) refl e
  where
    go : (o : Option Shape) → find (λ s. answers_to p.0 (label_of s)) (built funnel_app).subs ≡ o → option_map_or (λ s. level_passes s [] nothing_held p.1 false) o true ≡ true
        → IfSome (option_map (λ s. rows_at s p.1) o) HasNumbers
    go None is e = tt
    go (Some s) is e = (found_has (FindsNumbers p.1) (built funnel_app).subs (λ s. answers_to p.0 (label_of s)) s (all_find p.1) is).1 e

-- where the words are taken, each option of the subcommand that they name has a number
pub taken_numbers : (words : List Text) → takes funnel_app words ≡ true → IfSome (subcommand_of funnel_app words) HasNumbers
taken_numbers words e =
    let parts = both (is_simple funnel_app) _ e in
    let stop = (walk (built funnel_app).top.rules (names_of (built funnel_app)) nothing_held (argument_words funnel_app words)).stopped in
    entered_numbers stop (both (entered_passes (built funnel_app) stop) _ parts.1).0

-- ---- the command that the words are

pub no_command : (words : List Text) → takes funnel_app (call_words words) ≡ false → command_of words ≡ None
no_command words e = rw e refl

pub command_is : (words : List Text) → takes funnel_app (call_words words) ≡ true → command_of words ≡ option_and_then subcommand_as (subcommand_of funnel_app (call_words words))
command_is words e = rw e refl

-- a parse that succeeds has taken the words, and found what they name
pub parsed_is : (words all : List Text) (app : App) (m : ArgMatches) → app ≡ funnel_app → all ≡ call_words words → HasMatchesOf app all m
    → (is_simple_and_free app ≡ true → fault_of app all ≡ [])
    → (takes funnel_app (call_words words) ≡ true) × (subcommand_rows_of m ≡ subcommand_of funnel_app (call_words words))
parsed_is words all app m app_is words_are matches faultless = (
  faultless_is_taken (call_words words) (ap₂ fault_of (sym app_is) (sym words_are) ∙ faultless (ap is_simple_and_free app_is ∙ app_is_free)),
  (matches (ap is_simple app_is ∙ app_is_simple)).1 ∙ ap₂ subcommand_of app_is words_are,
)

-- a parse that fails for another cause than memory has not taken them
pub refused_is : (words all : List Text) (app : App) (why : ErrorKind) → app ≡ funnel_app → all ≡ call_words words → (takes app all ≡ true → why ≡ OutOfMemory)
    → why ≢ OutOfMemory → command_of words ≡ None
refused_is words all app why app_is words_are passes other = no_command words (go (takes funnel_app (call_words words)) refl)
  where
    go : (b : Bool) → takes funnel_app (call_words words) ≡ b → b ≡ false
    go false is = refl
    go true is = absurd (other (passes (ap₂ takes app_is words_are ∙ is)))

-- nor has one whose fault is that they are no command
pub failed_is : (words all : List Text) (app : App) (why : ErrorKind) → app ≡ funnel_app → all ≡ call_words words → (takes app all ≡ true → why ≡ OutOfMemory)
    → fault_by why ≡ Usage → command_of words ≡ None
failed_is words all app why app_is words_are passes usage = refused_is words all app why app_is words_are passes (λ memory.
    let other : fault_by why ≡ Memory = ap fault_by memory in
    absurd (cc))

-- what `?` hands up is the fault that the kind of error makes
pub handed_up : {T : Type 0} (r : Result T CommandFault) (fault : CommandFault) → IsErrAnd r (λ f. f ≡ fault) → IsErrOf r Usage → fault ≡ Usage
handed_up (Ok x) fault is e = absurd is
handed_up (Err f) fault is e = cc

-- an answer that is the command where there is one, and else Usage
pub answered : (command found : Option Command) (r : Result Command CommandFault) → command ≡ found → r ≡ ok_or found Usage → IfOk r (λ c. command ≡ Some c)
answered command found (Ok c) is e = go found is e
  where
    go : (o : Option Command) → command ≡ o → Ok c ≡ ok_or o Usage → command ≡ Some c
    go None is e = absurd (cc)
    go (Some x) is e = cc
answered command found (Err f) is e = tt

pub refused : (command found : Option Command) (r : Result Command CommandFault) → command ≡ found → r ≡ ok_or found Usage → IsErrOf r Usage → command ≡ None
refused command None r is e usage = is
refused command (Some x) r is e usage = absurd (cc)

-- an answer has what the command that was found has
pub answered_has : (P : Command → Type 0) (found : Option Command) (r : Result Command CommandFault) → r ≡ ok_or found Usage → IfSome found P → IfOk r P
answered_has P None r e has = subst (λ (x : Result Command CommandFault). IfOk x P) (sym e) tt
answered_has P (Some x) r e has = subst (λ (y : Result Command CommandFault). IfOk y P) (sym e) has
