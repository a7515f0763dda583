use Rattle.std.proofs.Common.{rules, ◌≡◌, ◌∙◌, map, ap, subst, sym, List, IfSome, IsErrAnd}
use Rattle.std.specs.Prelude.{option_and_then}
use Rattle.clap.specs.Words.{Text, kind_of}
use Rattle.command_line.specs.Commands.{HasNumbers, HasNumbersInRange, call_words, command_of, fault_by, subcommand_as}
use Rattle.command_line.proofs.TakenWords.{answered, answered_has, command_is, failed_is, handed_up, parsed_is, refused, taken_numbers}
use Rattle.command_line.proofs.command.read_command.Goals as goal

pub returns-in_err-matches-clause-usage : goal.returns-in_err-matches-clause-usage
returns-in_err-matches-clause-usage c =
    let words : List Text = map (λ word. word.now) c.args.words.now in
    let words_are : map (λ s. s.now) c.as_slice.result.now ≡ call_words words = search rules in
    let why = kind_of c.in_err-matches.field-0.0 in
    let fault : IsErrAnd c.from_residual-in_err-matches.result (λ f. f ≡ fault_by why) = c.from_residual-in_err-matches.ensures.1 in
    λ usage. failed_is words _ _ why c.in_ok-funnel_app.ensures words_are c.in_err-matches.ensures.passes (handed_up _ _ fault usage)

pub command_in-requires : goal.command_in-requires
command_in-requires c =
    let words : List Text = map (λ word. word.now) c.args.words.now in
    let words_are : map (λ s. s.now) c.as_slice.result.now ≡ call_words words = search rules in
    let is = parsed_is words _ _ c.in_ok-matches.matches c.in_ok-funnel_app.ensures words_are c.in_ok-matches.ensures.matches c.in_ok-matches.ensures.kinds in
    subst (λ found. IfSome found HasNumbers) (sym is.1) (taken_numbers (call_words words) is.0)

-- the command that was found is the words'
found_is : (c : goal.After-drop-words-2) → command_of (map (λ word. word.now) c.args.words.now) ≡ c.command_in.result
found_is c =
    let words : List Text = map (λ word. word.now) c.args.words.now in
    let words_are : map (λ s. s.now) c.as_slice.result.now ≡ call_words words = search rules in
    let is = parsed_is words _ _ c.in_ok-matches.matches c.in_ok-funnel_app.ensures words_are c.in_ok-matches.ensures.matches c.in_ok-matches.ensures.kinds in
    command_is words is.0 ∙ ap (option_and_then subcommand_as) (sym is.1) ∙ sym c.command_in.ensures.found

pub returns-clause-ok : goal.returns-clause-ok
returns-clause-ok c = answered _ c.command_in.result c.ok_or.result (found_is c) c.ok_or.ensures.value

pub returns-clause-usage : goal.returns-clause-usage
returns-clause-usage c = refused _ c.command_in.result c.ok_or.result (found_is c) c.ok_or.ensures.value

pub returns-clause-in_range : goal.returns-clause-in_range
returns-clause-in_range c = answered_has HasNumbersInRange c.command_in.result c.ok_or.result c.ok_or.ensures.value c.command_in.ensures.in_range
