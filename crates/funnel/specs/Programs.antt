-- What a program of funnel does, from its words to its end. How each end is told stands in `Ends`, and the laws in `Laws`.
use Rattle.std.specs.Prelude.{◌≡◌, ◌⊎◌, ℕ, false, List, length, Option, Some, None, IsSome, IfSome, Ok, Err}
use Rattle.engine.specs.Engines.{ClosedState}
use Rattle.funnel_io.specs.Counts.{counted}
use Rattle.funnel_io.specs.Streams.{Incoming, Outgoing}
use Rattle.funnel_model.specs.declared.config.Config.{Config}
use Rattle.funnel_server.specs.Gates.{GateState}
use Rattle.funnel_stats.specs.declared.fault.ConfigFault.{ConfigFault}
use Rattle.funnel_stats.specs.Reading.{IsConfigRead, is_failed_read}
use Rattle.command_line.specs.Commands.{command_of, is_fit}
use Rattle.funnel.specs.Ends.{why_of_config}
use Rattle.funnel.specs.FitRuns.{EndsFit}
use Rattle.funnel.specs.LoadRuns.{EndsLoad}
use Rattle.funnel.specs.Misfits.{misfit_of}
use Rattle.funnel.specs.Runs.{KeepsLast, RanOrNot}
use Rattle.funnel.specs.ServeRuns.{EndsServe}
use Rattle.funnel.specs.Texts.{IsTextWritten, text_asked, text_of}
use Rattle.command_line.specs.declared.command.Command.{Command}
use Rattle.command_line.specs.declared.command.Command.TheVariants as command
use Rattle.command_line.specs.declared.command.FitCommand.{FitCommand}
use Rattle.command_line.specs.declared.command.LoadCommand.{LoadCommand}
use Rattle.command_line.specs.declared.command.ServeCommand.{ServeCommand}
use Rattle.funnel.specs.declared.ends.Misfit.{Misfit}
use Rattle.funnel.specs.declared.text.Text.{Text}
use Rattle.funnel.specs.declared.ends.Why.{Why}
use Rattle.funnel.specs.declared.ends.Why.TheVariants as why_of

-- what a program reads and writes: its configuration, its input and its output, and the gates that it was handed
pub record Streams : Type 0 where
  pub config : Incoming
  pub input : Incoming
  pub output : Outgoing
  pub gates : List GateState

-- the words ask for a text alone, and it is told: nothing is read, and no engine is opened
pub record EndsAfterText (words : List (List ℕ)) (before after : Streams) (why : Why) (closed : Option ClosedState) : Type 0 where
  pub text : Text
  pub asked : text_asked words ≡ Some text
  pub written : IsTextWritten (text_of text) before.output after.output why
  pub others : after ≡ record before { output = after.output }
  pub none : closed ≡ None

-- the words ask for no text and are no command, or there was no memory to read them
pub record EndsAtWords (words : List (List ℕ)) (before after : Streams) (why : Why) (closed : Option ClosedState) : Type 0 where
  pub no_text : text_asked words ≡ None
  pub untouched : after ≡ before
  pub cause : ((why ≡ why_of.Usage) × (command_of words ≡ None)) ⊎ (why ≡ why_of.Memory)
  pub none : closed ≡ None

-- the words are a command that reads a configuration, which is refused
pub record EndsAtConfig (words : List (List ℕ)) (before after : Streams) (why : Why) (closed : Option ClosedState) : Type 0 where
  pub command : IsSome (command_of words)
  pub no_fit : is_fit (command_of words) ≡ false
  pub fault : ConfigFault
  pub read : IsConfigRead (Err fault) before.config after.config
  pub faults : after.config.faults ≡ counted (is_failed_read fault) before.config.faults
  pub others : after ≡ record before { config = after.config }
  pub cause : why ≡ why_of_config fault
  pub none : closed ≡ None

-- the words are a command that reads a configuration, and this one is read
pub record IsConfigured (words : List (List ℕ)) (before after : Streams) (command : Command) (config : Config) : Type 0 where
  pub words_are : command_of words ≡ Some command
  pub no_fit : is_fit (command_of words) ≡ false
  pub read : IsConfigRead (Ok config) before.config after.config
  pub faults : after.config.faults ≡ before.config.faults

-- a number of the command doesn't fit the gates or the configuration, or is no port
pub record EndsAtMisfit (words : List (List ℕ)) (before after : Streams) (why : Why) (closed : Option ClosedState) : Type 0 where
  pub command : Command
  pub config : Config
  pub configured : IsConfigured words before after command config
  pub misfit : Misfit
  pub misfits : misfit_of command (length before.gates) config ≡ Some misfit
  pub others : after ≡ record before { config = after.config }
  pub cause : why ≡ why_of.Misfit misfit
  pub none : closed ≡ None

-- the lines of the input are answered by an engine with the configuration
pub record EndsAfterRun (words : List (List ℕ)) (before after : Streams) (why : Why) (closed : Option ClosedState) : Type 0 where
  pub config : Config
  pub configured : IsConfigured words before after command.Run config
  pub gates : after.gates ≡ before.gates
  pub ran : RanOrNot config before.input after.input before.output after.output why closed
  pub kept : IfSome closed (KeepsLast config)

-- the serve that the words ask for fits, and the connections of the gates are answered by an engine with the configuration
pub record EndsAfterServe (words : List (List ℕ)) (before after : Streams) (why : Why) (closed : Option ClosedState) : Type 0 where
  pub serve : ServeCommand
  pub config : Config
  pub configured : IsConfigured words before after (command.Serve serve) config
  pub fits : misfit_of (command.Serve serve) (length before.gates) config ≡ None
  pub input : after.input ≡ before.input
  pub output : after.output ≡ before.output
  pub served : EndsServe config serve before.gates after.gates why closed
  pub kept : IfSome closed (KeepsLast config)

-- the load that the words ask for fits, and is put to an engine with the configuration
pub record EndsAfterLoad (words : List (List ℕ)) (before after : Streams) (why : Why) (closed : Option ClosedState) : Type 0 where
  pub load : LoadCommand
  pub config : Config
  pub configured : IsConfigured words before after (command.Load load) config
  pub fits : misfit_of (command.Load load) (length before.gates) config ≡ None
  pub input : after.input ≡ before.input
  pub gates : after.gates ≡ before.gates
  pub ends : EndsLoad config load before.output after.output why closed
  pub kept : IfSome closed (KeepsLast config)

-- the fit that the words ask for is made: it reads no configuration, calls no gate and opens no engine
pub record EndsAfterFit (words : List (List ℕ)) (before after : Streams) (why : Why) (closed : Option ClosedState) : Type 0 where
  pub fit : FitCommand
  pub words_are : command_of words ≡ Some (command.Fit fit)
  pub ends : EndsFit fit before.input after.input before.output after.output why
  pub others : after ≡ record before { input = after.input; output = after.output }
  pub none : closed ≡ None

-- a program that serves no gate ends with its text, or at its words, or at its configuration, or at numbers that don't fit, or after
-- its run, its load or its fit
abbrev pub EndsUnserved : List (List ℕ) → Streams → Streams → Why → Option ClosedState → Type 0
EndsUnserved words before after why closed =
    EndsAfterText words before after why closed ⊎ EndsAtWords words before after why closed ⊎ EndsAtConfig words before after why closed
    ⊎ EndsAtMisfit words before after why closed ⊎ EndsAfterRun words before after why closed ⊎ EndsAfterLoad words before after why closed
    ⊎ EndsAfterFit words before after why closed

-- a program ends so, or after its serve
abbrev pub Ends : List (List ℕ) → Streams → Streams → Why → Option ClosedState → Type 0
Ends words before after why closed = EndsUnserved words before after why closed ⊎ EndsAfterServe words before after why closed
