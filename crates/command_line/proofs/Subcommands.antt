-- What a command is to which subcommands were added in turn.
use Rattle.std.proofs.Common.{◌≡◌, ◌∙◌, ap, sym, subst, codes, false, true, List, [], ◌∷◌, ◌++◌, Result, Ok, Err, IfOk}
use Rattle.std.specs.Prelude.{MatchResult, Vec}
use Rattle.std.specs.Global.{Global}
use Rattle.clap.specs.declared.builder.command.Command.TheViews.{out-Command as fields_of}
use Rattle.clap.specs.Words.{App, AddsInTurn, AddsSubcommand, Shape, app_of, with_subcommand}
use Rattle.clap.specs.Simple.{new_shape}
use Rattle.clap.specs.declared.builder.command.Command.{Command}
use Rattle.command_line.specs.Commands.{AreSubcommands, fit_form, funnel_app, load_form, run_form, serve_form}

-- the command with subcommands of these forms, one after the other
abbrev app_with : App → List Shape → App
app_with app [] = app
app_with app (form ∷ forms) = app_with (with_subcommand app form) forms

added_in_turn : (commands : List Command) (forms : List Shape) (old new : Command) → AreSubcommands commands forms → AddsInTurn AddsSubcommand old commands new →
    app_of new ≡ app_with (app_of old) forms
added_in_turn [] [] old new are adds = ap app_of (sym adds)
added_in_turn [] (form ∷ forms) old new are adds = absurd are
added_in_turn (command ∷ commands) [] old new are adds = absurd are
added_in_turn (command ∷ commands) (form ∷ forms) old new are adds =
    let first : app_of adds.0 ≡ with_subcommand (app_of old) form = adds.1.shape are.1 ∙ ap (λ (app : App). with_subcommand (app_of old) app.top) are.0 in
    added_in_turn commands forms adds.0 new are.2 adds.2 ∙ ap (λ (app : App). app_with app forms) first

-- with the four subcommands it is funnel's command line
pub funnel_app_is : {E : Type 0} (answer : Result Command E) (old : Command) (commands : List Command) →
    app_of old ≡ record { top = record (new_shape (codes "funnel")) { subcommand_required = true }; subs = [] } →
    AreSubcommands commands (run_form ∷ serve_form ∷ load_form ∷ fit_form ∷ []) → IfOk answer (AddsInTurn AddsSubcommand old commands) → IfOk answer (λ app. app_of app ≡ funnel_app)
funnel_app_is (Ok new) old commands is are adds =
    added_in_turn commands (run_form ∷ serve_form ∷ load_form ∷ fit_form ∷ []) old new are adds
    ∙ ap (λ (app : App). app_with app (run_form ∷ serve_form ∷ load_form ∷ fit_form ∷ [])) is
funnel_app_is (Err error) old commands is are adds = tt

-- one more command, of one more form
one_more : (commands : List Command) (forms : List Shape) (command : Command) (form : Shape) → AreSubcommands commands forms →
    app_of command ≡ record { top = form; subs = [] } → (fields_of command).has_globals ≡ false → AreSubcommands (commands ++ (command ∷ [])) (forms ++ (form ∷ []))
one_more [] [] command form are is local = (is, local, tt)
one_more [] (other ∷ forms) command form are is local = absurd are
one_more (first ∷ commands) [] command form are is local = absurd are
one_more (first ∷ commands) (other ∷ forms) command form are is local = (are.0, are.1, one_more commands forms command form are.2 is local)

-- the same of the list that a call gives, where the command was made
pub grown_are : {E : Type 0} (answer : Result (Vec Command Global) E) (app : Result Command E) (commands : List Command) (forms : List Shape) (form : Shape) → AreSubcommands commands forms →
    IfOk app (λ command. app_of command ≡ record { top = form; subs = [] }) → IfOk app (λ command. (fields_of command).has_globals ≡ false) →
    IfOk answer (λ more. MatchResult app (λ one. more.items ≡ commands ++ (one ∷ [])) (λ _. ⊥)) → IfOk answer (λ more. AreSubcommands more.items (forms ++ (form ∷ [])))
grown_are (Ok more) (Ok command) commands forms form are is local grown =
    subst (λ (all : List Command). AreSubcommands all (forms ++ (form ∷ []))) (sym grown) (one_more commands forms command form are is local)
grown_are (Ok more) (Err error) commands forms form are is local grown = absurd grown
grown_are (Err error) app commands forms form are is local grown = tt
