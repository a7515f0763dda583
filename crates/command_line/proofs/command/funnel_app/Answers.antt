use Rattle.std.proofs.Common.{rules, ◌≡◌, true, codes, []}
use Rattle.clap.specs.Words.{app_of}
use Rattle.clap.specs.Simple.{new_shape}
use Rattle.command_line.proofs.Subcommands.{funnel_app_is}
use Rattle.command_line.proofs.command.funnel_app.Goals as goal

pub returns : goal.returns
returns c =
    let top : app_of c.subcommand_required.result ≡ record { top = record (new_shape (codes "funnel")) { subcommand_required = true }; subs = [] } = search rules in
    funnel_app_is c.subcommands-2.result c.subcommand_required.result c.in_ok-subcommands.subcommands.items top c.in_ok-subcommands.ensures c.subcommands-2.ensures
