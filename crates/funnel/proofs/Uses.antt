-- Which of its streams a program uses.
use Rattle.std.proofs.Common.{◌≡◌, ℕ, true, false, List, Option, Some, None, refl, sym, ap, ap₂, ◌∙◌, subst}
use Rattle.std.proofs.lemmas.Bool.{false≢true, true≢false}
use Rattle.std.specs.Option.{is_some}
use Rattle.engine.specs.Engines.{ClosedState}
use Rattle.funnel_io.specs.Streams.{Incoming, Outgoing}
use Rattle.funnel_model.specs.declared.config.Config.{Config}
use Rattle.command_line.specs.Commands.{command_of, is_serve}
use Rattle.command_line.specs.declared.command.Command.{Command}
use Rattle.command_line.specs.declared.command.Command.TheVariants as command
use Rattle.command_line.specs.declared.command.FitCommand.{FitCommand}
use Rattle.command_line.specs.declared.command.LoadCommand.{LoadCommand}
use Rattle.funnel.specs.Runs.{RanOrNot}
use Rattle.funnel.specs.Texts.{text_asked}
use Rattle.funnel.specs.Uses.{is_carried_out, uses_input, uses_output}
use Rattle.funnel.specs.declared.ends.Why.{Why}
use Rattle.funnel.specs.declared.ends.Why.TheVariants as why_of
use Rattle.funnel.specs.declared.text.Text.{Text}
use Rattle.funnel.proofs.AskedTexts.{asked_is_no_command}

-- a program that opened an engine and didn't carry out its command ran out of memory
ran_out : (why : Why) (left : ClosedState) → is_carried_out why (Some left) ≡ false → why ≡ why_of.Memory
ran_out why_of.Memory left none = refl
ran_out why left none = absurd (true≢false none)

-- one that didn't carry it out opened none, or ran out of memory
pub not_carried_out : {P : Type 0} (why : Why) (closed : Option ClosedState) → (closed ≡ None → P) → (why ≡ why_of.Memory → P) → is_carried_out why closed ≡ false → P
not_carried_out why None unopened memory none = unopened refl
not_carried_out why (Some left) unopened memory none = memory (ran_out why left none)

-- a run that opened none had no memory for it
pub run_without_memory : {P : Type 0} (config : Config) (incoming later_incoming : Incoming) (outgoing later_outgoing : Outgoing) (why : Why) (closed : Option ClosedState) →
    RanOrNot config incoming later_incoming outgoing later_outgoing why closed → (why ≡ why_of.Memory → P) → is_carried_out why closed ≡ false → P
run_without_memory config incoming later_incoming outgoing later_outgoing why None ran memory none = memory ran
run_without_memory config incoming later_incoming outgoing later_outgoing why (Some left) ran memory none = memory (ran_out why left none)

-- a run, or a load, that uses no input, or no output, wasn't carried out
pub unread_by_run : (words : List (List ℕ)) (why : Why) (closed : Option ClosedState) → command_of words ≡ Some command.Run →
    uses_input (command_of words) why closed ≡ false → is_carried_out why closed ≡ false
unread_by_run words why closed is unused = sym (ap (λ asked. uses_input asked why closed) is) ∙ unused

pub unwritten_by_run : (words : List (List ℕ)) (why : Why) (closed : Option ClosedState) → command_of words ≡ Some command.Run →
    uses_output (text_asked words) (command_of words) why closed ≡ false → is_carried_out why closed ≡ false
unwritten_by_run words why closed is unused = sym (ap (λ asked. uses_output (text_asked words) asked why closed) is) ∙ unused

pub unwritten_by_load : (words : List (List ℕ)) (load : LoadCommand) (why : Why) (closed : Option ClosedState) → command_of words ≡ Some (command.Load load) →
    uses_output (text_asked words) (command_of words) why closed ≡ false → is_carried_out why closed ≡ false
unwritten_by_load words load why closed is unused = sym (ap (λ asked. uses_output (text_asked words) asked why closed) is) ∙ unused

-- a text that is asked for uses the output
pub texts_are_written : (words : List (List ℕ)) (text : Text) (why : Why) (closed : Option ClosedState) → text_asked words ≡ Some text →
    uses_output (text_asked words) (command_of words) why closed ≡ false → ⊥
texts_are_written words text why closed told unused =
    true≢false (sym (ap₂ (λ asked is. uses_output asked is why closed) told (asked_is_no_command words (ap is_some told))) ∙ unused)

-- a fit uses the input and the output
pub fits_read : (words : List (List ℕ)) (fit : FitCommand) (why : Why) (closed : Option ClosedState) → command_of words ≡ Some (command.Fit fit) →
    uses_input (command_of words) why closed ≡ false → ⊥
fits_read words fit why closed is unused = true≢false (sym (ap (λ asked. uses_input asked why closed) is) ∙ unused)

pub fits_are_written : (words : List (List ℕ)) (fit : FitCommand) (why : Why) (closed : Option ClosedState) → command_of words ≡ Some (command.Fit fit) →
    uses_output (text_asked words) (command_of words) why closed ≡ false → ⊥
fits_are_written words fit why closed is unused = true≢false (sym (ap (λ asked. uses_output (text_asked words) asked why closed) is) ∙ unused)
