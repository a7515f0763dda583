-- Which command some words are: what `clap` makes of them for the command that is written out here.
use Rattle.std.specs.Prelude.{◌≡◌, ◌≤◌, ◌⊎◌, ⊤, ℕ, Bool, true, false, List, [], ◌∷◌, Option, Some, None, pos, codes, if◌then◌else◌, option_and_then, replicate, unwrap_or}
use Rattle.std.specs.List.{range_with_len}
use Rattle.std.specs.Option.{IsSomeAnd, option_map_or}
use Rattle.std.specs.Str.{bytes_eq}
use Rattle.std.specs.Str.Parse.{IsNumeral, digits_value, without_leading_plus}
use Rattle.clap.specs.Words.{App, Row, Rule, Shape, Text, app_of, new_rule, one_of, subcommand_of, takes}
use Rattle.clap.specs.declared.builder.command.Command.TheViews.{out-Command as fields_of}
use Rattle.clap.specs.declared.builder.command.Command.{Command as BuiltCommand}
use Rattle.clap.specs.Simple.{new_shape}
use Rattle.clap.specs.declared.builder.action.ArgAction.TheVariants.{Set, SetTrue}
use Rattle.clap.specs.declared.builder.value_parser.ValueParser.{ValueParser}
use Rattle.clap.specs.declared.builder.value_parser.ValueParser.TheVariants as vp
use Rattle.command_line.specs.declared.command.Command.{Command}
use Rattle.command_line.specs.declared.command.Command.TheVariants as command
use Rattle.command_line.specs.declared.command.FitCommand.{FitCommand}
use Rattle.command_line.specs.declared.command.LoadCommand.{LoadCommand}
use Rattle.command_line.specs.declared.command.ServeCommand.{ServeCommand}
use Rattle.command_line.specs.declared.command.TheConstants.{MOST_CONNECTIONS, MOST_FITTED, MOST_IDLE, MOST_PORT}
use Rattle.funnel_model.specs.declared.config.TheConstants.{MOST_PASSES}
use Rattle.load_gen.specs.declared.limits.TheConstants.{MOST_DOCS, MOST_WORDS}
use Rattle.command_line.specs.declared.command.CommandFault.{CommandFault}
use Rattle.command_line.specs.declared.command.CommandFault.TheVariants.{Memory, Usage}
use Rattle.clap.specs.declared.error.kind.ErrorKind.{ErrorKind}
use Rattle.clap.specs.declared.error.kind.ErrorKind.TheVariants.{OutOfMemory}

-- the numbers from `low` to `high`, as the parser of a smaller type of number is narrowed
abbrev pub numbers_between : ℕ → ℕ → ValueParser
numbers_between low high = vp.Signed (pos low) (pos high)

-- `--name` with one value, a number
abbrev pub number_option : Text → ValueParser → Rule
number_option name numbers = record (new_rule name) { long = Some name; action = Some Set; parser = Some numbers }

-- the port of the first worker, which has to be given
abbrev pub port_option : Rule
port_option = record (number_option (codes "port") (numbers_between 1 MOST_PORT)) { required = true }

-- a number of workers, which has to be given
abbrev pub workers_option : Rule
workers_option = record (number_option (codes "workers") (numbers_between 1 MOST_PASSES)) { required = true }

-- how many connections each worker serves, or else 4,294,967,296
abbrev pub connections_option : Rule
connections_option = record (number_option (codes "connections") (vp.Unsigned 1 MOST_CONNECTIONS)) { defaults = codes "4294967296" ∷ [] }

-- for how many seconds a read or a write of a connection may wait, or else 0
abbrev pub idle_option : Rule
idle_option = record (number_option (codes "idle") (numbers_between 0 MOST_IDLE)) { defaults = codes "0" ∷ [] }

-- whether all workers take connections at one port: a word without a value
abbrev pub one_port_option : Rule
one_port_option = record (new_rule (codes "one-port")) { long = Some (codes "one-port"); action = Some SetTrue }

-- whether requests over HTTP are answered: a word without a value
abbrev pub http_option : Rule
http_option = record (new_rule (codes "http")) { long = Some (codes "http"); action = Some SetTrue }

-- a number of documents, which has to be given
abbrev pub docs_option : Rule
docs_option = record (number_option (codes "docs") (numbers_between 1 MOST_DOCS)) { required = true }

-- how many workers make the load, or else 1
abbrev pub load_workers_option : Rule
load_workers_option = record (number_option (codes "workers") (numbers_between 1 MOST_PASSES)) { defaults = codes "1" ∷ [] }

-- a number of words for each document, or else 80
abbrev pub words_option : Rule
words_option = record (number_option (codes "words") (numbers_between 0 MOST_WORDS)) { defaults = codes "80" ∷ [] }

-- a number of 64 bits, or else 0
abbrev pub seed_option : Rule
seed_option = record (number_option (codes "seed") (vp.Unsigned 0 18446744073709551615)) { defaults = codes "0" ∷ [] }

-- for how many documents a configuration is to have room, which has to be given
abbrev pub documents_option : Rule
documents_option = record (number_option (codes "documents") (numbers_between 1 MOST_FITTED)) { required = true }

-- `run`, which has no option
abbrev pub run_form : Shape
run_form = new_shape (codes "run")

abbrev pub serve_form : Shape
serve_form = record (new_shape (codes "serve")) { rules = port_option ∷ workers_option ∷ connections_option ∷ idle_option ∷ one_port_option ∷ http_option ∷ [] }

abbrev pub load_form : Shape
load_form = record (new_shape (codes "load")) { rules = docs_option ∷ load_workers_option ∷ words_option ∷ seed_option ∷ [] }

abbrev pub fit_form : Shape
fit_form = record (new_shape (codes "fit")) { rules = documents_option ∷ [] }

-- the command line: `funnel`, and one of its subcommands, which has to be there
abbrev pub funnel_app : App
funnel_app = record {
  top = record (new_shape (codes "funnel")) { is_leaf = false; subcommand_required = true };
  subs = run_form ∷ serve_form ∷ load_form ∷ fit_form ∷ [];
}

-- the commands have these forms, each without subcommands of its own and without a global option
abbrev pub AreSubcommands : List BuiltCommand → List Shape → Type 0
AreSubcommands [] [] = ⊤
AreSubcommands [] (form ∷ forms) = ⊥
AreSubcommands (command ∷ commands) [] = ⊥
AreSubcommands (command ∷ commands) (form ∷ forms) =
    (app_of command ≡ record { top = form; subs = [] }) × ((fields_of command).has_globals ≡ false) × AreSubcommands commands forms

-- the option has a value, which is a number from `low` to `high`
abbrev pub HasNumber : ℕ → ℕ → Text → List Row → Type 0
HasNumber low high name found = IsSomeAnd (one_of name found) (λ text.
    IsNumeral 10 (without_leading_plus text) × (low ≤ digits_value 10 (without_leading_plus text)) × (digits_value 10 (without_leading_plus text) ≤ high))

-- the option was given, or not
abbrev pub IsGivenOrNot : Text → List Row → Type 0
IsGivenOrNot name found = IsSomeAnd (one_of name found) (λ text. (text ≡ codes "true") ⊎ (text ≡ codes "false"))

-- each option of `serve` has one, but for those without a value
pub record HasServeNumbers (found : List Row) : Type 0 where
  pub port : HasNumber 1 MOST_PORT (codes "port") found
  pub workers : HasNumber 1 MOST_PASSES (codes "workers") found
  pub connections : HasNumber 1 MOST_CONNECTIONS (codes "connections") found
  pub idle : HasNumber 0 MOST_IDLE (codes "idle") found
  pub one_port : IsGivenOrNot (codes "one-port") found
  pub http : IsGivenOrNot (codes "http") found

-- each option of `load` has one
pub record HasLoadNumbers (found : List Row) : Type 0 where
  pub docs : HasNumber 1 MOST_DOCS (codes "docs") found
  pub workers : HasNumber 1 MOST_PASSES (codes "workers") found
  pub words : HasNumber 0 MOST_WORDS (codes "words") found
  pub seed : HasNumber 0 18446744073709551615 (codes "seed") found

-- the option of `fit` has one
pub record HasFitNumbers (found : List Row) : Type 0 where
  pub documents : HasNumber 1 MOST_FITTED (codes "documents") found

-- and so has each option of the subcommand that was found
pub record HasNumbers (found : Text × List Row) : Type 0 where
  pub serve : found.0 ≡ codes "serve" → HasServeNumbers found.1
  pub load : found.0 ≡ codes "load" → HasLoadNumbers found.1
  pub fit : found.0 ≡ codes "fit" → HasFitNumbers found.1

-- the number that an option has: the value that was given, or else its default
abbrev pub option_number : Text → List Row → ℕ
option_number name found = digits_value 10 (without_leading_plus (unwrap_or (one_of name found) []))

-- an option without a value was given
abbrev pub is_given : Text → List Row → Bool
is_given name found = option_map_or (λ text. bytes_eq text (codes "true")) (one_of name found) false

abbrev pub serve_of : List Row → ServeCommand
serve_of found = record {
  port = option_number (codes "port") found;
  workers = option_number (codes "workers") found;
  connections = option_number (codes "connections") found;
  idle = option_number (codes "idle") found;
  one_port = is_given (codes "one-port") found;
  http = is_given (codes "http") found;
}

abbrev pub load_of : List Row → LoadCommand
load_of found = record {
  docs = option_number (codes "docs") found;
  workers = option_number (codes "workers") found;
  words = option_number (codes "words") found;
  seed = option_number (codes "seed") found;
}

abbrev pub fit_of : List Row → FitCommand
fit_of found = record { documents = option_number (codes "documents") found }

-- the numbers of a serve lie in their ranges
pub record IsServeInRange (serve : ServeCommand) : Type 0 where
  pub some_port : 1 ≤ serve.port
  pub is_port : serve.port ≤ MOST_PORT
  pub some_workers : 1 ≤ serve.workers
  pub few_workers : serve.workers ≤ MOST_PASSES
  pub some_connections : 1 ≤ serve.connections
  pub few_connections : serve.connections ≤ MOST_CONNECTIONS
  pub few_seconds : serve.idle ≤ MOST_IDLE

-- the numbers of a load lie in theirs
pub record IsLoadInRange (load : LoadCommand) : Type 0 where
  pub some_docs : 1 ≤ load.docs
  pub few_docs : load.docs ≤ MOST_DOCS
  pub some_workers : 1 ≤ load.workers
  pub few_workers : load.workers ≤ MOST_PASSES
  pub few_words : load.words ≤ MOST_WORDS

-- and so does the number of a fit
pub record IsFitInRange (fit : FitCommand) : Type 0 where
  pub some_documents : 1 ≤ fit.documents
  pub few_documents : fit.documents ≤ MOST_FITTED

-- and those of a command
abbrev pub HasNumbersInRange : Command → Type 0
HasNumbersInRange command.Run = ⊤
HasNumbersInRange (command.Serve serve) = IsServeInRange serve
HasNumbersInRange (command.Load load) = IsLoadInRange load
HasNumbersInRange (command.Fit fit) = IsFitInRange fit

-- the command that a subcommand is, with what was found for its options
abbrev pub subcommand_as : Text × List Row → Option Command
subcommand_as (name, found) =
    if bytes_eq name (codes "run") then Some command.Run
    else (if bytes_eq name (codes "serve") then Some (command.Serve (serve_of found))
    else (if bytes_eq name (codes "load") then Some (command.Load (load_of found))
    else (if bytes_eq name (codes "fit") then Some (command.Fit (fit_of found)) else None)))

-- the words of a call, after the name of the program
abbrev pub call_words : List Text → List Text
call_words words = codes "funnel" ∷ words

-- the command that the words are: there is one where `clap` takes them
abbrev pub command_of : List Text → Option Command
command_of words =
    if takes funnel_app (call_words words)
    then option_and_then subcommand_as (subcommand_of funnel_app (call_words words)) else None

abbrev pub is_serve : Option Command → Bool
is_serve (Some (command.Serve serve)) = true
is_serve _ = false

-- the words are a fit, which is the one command that reads no configuration and opens no engine
abbrev pub is_fit : Option Command → Bool
is_fit (Some (command.Fit fit)) = true
is_fit _ = false

-- the words are a command that reads a configuration
abbrev pub reads_config : Option Command → Bool
reads_config None = false
reads_config (Some (command.Fit fit)) = false
reads_config _ = true

-- the port of each worker of a serve: the stated one for all, or from that one up, also where there is no such port
abbrev pub ports_of_serve : ServeCommand → List ℕ
ports_of_serve serve = if serve.one_port then replicate serve.workers serve.port else range_with_len serve.port serve.workers

-- the ports on which a command listens
abbrev pub ports_of : Option Command → List ℕ
ports_of (Some (command.Serve serve)) = ports_of_serve serve
ports_of _ = []

-- for how many seconds the connections of a command may wait
abbrev pub idle_of : Option Command → ℕ
idle_of (Some (command.Serve serve)) = serve.idle
idle_of _ = 0

-- whether the workers of a command listen on one port
abbrev pub shares_port : Option Command → Bool
shares_port (Some (command.Serve serve)) = serve.one_port
shares_port _ = false

-- why no command was read, by what `clap` says went wrong
abbrev pub fault_by : ErrorKind → CommandFault
fault_by OutOfMemory = Memory
fault_by _ = Usage
