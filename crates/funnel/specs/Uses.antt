-- Which of its streams a program uses, by what its words are and how it ended.
use Rattle.std.specs.Prelude.{Bool, true, false, Option, Some, None}
use Rattle.std.specs.Option.{is_some}
use Rattle.engine.specs.Engines.{ClosedState}
use Rattle.command_line.specs.declared.command.Command.{Command}
use Rattle.command_line.specs.declared.command.Command.TheVariants as command
use Rattle.funnel.specs.declared.ends.Why.{Why}
use Rattle.funnel.specs.declared.ends.Why.TheVariants as why_of
use Rattle.funnel.specs.declared.text.Text.{Text}

-- a command was carried out by an engine, and memory didn't run out
abbrev pub is_carried_out : Why → Option ClosedState → Bool
is_carried_out why_of.Memory closed = false
is_carried_out why closed = is_some closed

-- the input is read by a run that is carried out, and by a fit
abbrev pub uses_input : Option Command → Why → Option ClosedState → Bool
uses_input (Some command.Run) why closed = is_carried_out why closed
uses_input (Some (command.Fit fit)) why closed = true
uses_input _ why closed = false

-- the output is written by a run and a load that are carried out, by a fit, and where words that are no command ask for a text
abbrev pub uses_output : Option Text → Option Command → Why → Option ClosedState → Bool
uses_output text None why closed = is_some text
uses_output text (Some command.Run) why closed = is_carried_out why closed
uses_output text (Some (command.Serve serve)) why closed = false
uses_output text (Some (command.Load load)) why closed = is_carried_out why closed
uses_output text (Some (command.Fit fit)) why closed = true
