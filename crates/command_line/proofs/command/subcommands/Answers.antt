use Rattle.std.proofs.Common.{rules, [], ◌∷◌, Ok}
use Rattle.command_line.specs.Commands.{AreSubcommands, fit_form, load_form, run_form, serve_form}
use Rattle.command_line.proofs.Subcommands.{grown_are}
use Rattle.command_line.proofs.command.subcommands.Goals as goal

pub returns : goal.returns
returns c =
    let first : AreSubcommands c.in_ok-first.first.items (run_form ∷ []) = search rules in
    let two : AreSubcommands c.in_ok-two.two.items (run_form ∷ serve_form ∷ []) =
    grown_are (Ok c.in_ok-two.two) c.serve_app.result c.in_ok-first.first.items (run_form ∷ []) serve_form first c.serve_app.ensures.app c.serve_app.ensures.local c.in_ok-two.ensures in
    let three : AreSubcommands c.in_ok-three.three.items (run_form ∷ serve_form ∷ load_form ∷ []) =
    grown_are (Ok c.in_ok-three.three) c.load_app.result c.in_ok-two.two.items (run_form ∷ serve_form ∷ []) load_form two c.load_app.ensures.app c.load_app.ensures.local c.in_ok-three.ensures in
    grown_are c.with_app-3.result c.fit_app.result c.in_ok-three.three.items (run_form ∷ serve_form ∷ load_form ∷ []) fit_form three c.fit_app.ensures.app c.fit_app.ensures.local c.with_app-3.ensures
