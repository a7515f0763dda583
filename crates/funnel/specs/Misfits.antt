-- The numbers of a command that don't fit the gates that the program was handed or its configuration, or are no ports.
use Rattle.std.specs.Prelude.{ℕ, ◌+◌, ◌-◌, ◌==◌, nat_lt, Option, Some, None, if◌then◌else◌}
use Rattle.funnel_model.specs.declared.config.Config.{Config}
use Rattle.funnel_model.specs.Sizes.{columns_of_pool}
use Rattle.command_line.specs.declared.command.Command.{Command}
use Rattle.command_line.specs.declared.command.Command.TheVariants as command
use Rattle.command_line.specs.declared.command.LoadCommand.{LoadCommand}
use Rattle.command_line.specs.declared.command.ServeCommand.{ServeCommand}
use Rattle.command_line.specs.declared.command.TheConstants.{MOST_PORT}
use Rattle.funnel.specs.declared.ends.Misfit.{Misfit}
use Rattle.funnel.specs.declared.ends.Misfit.TheVariants as misfit

-- each worker needs a pass of its own, and each document a column
abbrev pub misfit_of_load : LoadCommand → Config → Option Misfit
misfit_of_load load config =
    if nat_lt config.passes load.workers then Some (misfit.Workers load.workers config.passes)
    else (if nat_lt (columns_of_pool config) load.docs then Some (misfit.Columns load.docs (columns_of_pool config)) else None)

-- the port of the last worker
abbrev pub last_port_of : ServeCommand → ℕ
last_port_of serve = if serve.one_port then serve.port else serve.port + serve.workers - 1

-- each worker needs a gate of its own, a pass of its own, and a port that there is
abbrev pub misfit_of_serve : ServeCommand → ℕ → Config → Option Misfit
misfit_of_serve serve gates config =
    if gates == serve.workers then (
    if nat_lt config.passes serve.workers then Some (misfit.Workers serve.workers config.passes)
    else (if nat_lt MOST_PORT (last_port_of serve) then Some (misfit.Ports (last_port_of serve)) else None))
    else Some (misfit.Gates serve.workers gates)

-- a run fits every configuration, with a load the gates don't count, and a fit has no configuration that it would have to fit
abbrev pub misfit_of : Command → ℕ → Config → Option Misfit
misfit_of command.Run gates config = None
misfit_of (command.Serve serve) gates config = misfit_of_serve serve gates config
misfit_of (command.Load load) gates config = misfit_of_load load config
misfit_of (command.Fit fit) gates config = None
