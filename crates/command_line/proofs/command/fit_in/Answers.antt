use Rattle.std.proofs.Common.{◌≡◌, arith, subst, ◌∙◌, ap, sym, codes, is_some}
use Rattle.std.specs.Str.Parse.{ParsesUnsigned, ExplainsUnsignedError, HasUnsignedDigitsIfOk}
use Rattle.command_line.specs.declared.command.TheConstants.{MOST_FITTED}
use Rattle.clap.specs.Words.{found_of, rows_of}
use Rattle.command_line.specs.Commands.{IsFitInRange, fit_of}
use Rattle.command_line.specs.declared.command.FitCommand.{FitCommand}
use Rattle.command_line.proofs.Faultless.{some_is}
use Rattle.command_line.proofs.NumberLemmas.{fit_in_range, fit_is, option_read}
use Rattle.command_line.proofs.command.fit_in.Goals as goal

pub unwrap-requires : goal.unwrap-requires
unwrap-requires c =
    let documents = option_read (λ bs r. ParsesUnsigned 32 10 bs r × ExplainsUnsignedError 10 bs r × HasUnsignedDigitsIfOk bs r) 32 1 MOST_FITTED (codes "documents") (found_of c.args.found.now) c.get_one.result (omega arith) c.requires.documents c.get_one.ensures.value (λ u x g. g.0) in
    ap is_some documents

fit_read : (c : goal.After-unwrap) → ◌≡◌ {A = FitCommand} (record { documents = c.unwrap.result }) (fit_of (rows_of (found_of c.args.found.now)))
fit_read c =
    let found = found_of c.args.found.now in
    let documents = option_read (λ bs r. ParsesUnsigned 32 10 bs r × ExplainsUnsignedError 10 bs r × HasUnsignedDigitsIfOk bs r) 32 1 MOST_FITTED (codes "documents") found c.get_one.result (omega arith) c.requires.documents c.get_one.ensures.value (λ u x g. g.0) in
    fit_is (rows_of found) _ (some_is (sym c.unwrap.ensures ∙ documents))

pub returns-clause-fit : goal.returns-clause-fit
returns-clause-fit c = fit_read c

pub returns-clause-in_range : goal.returns-clause-in_range
returns-clause-in_range c = subst IsFitInRange (sym (fit_read c)) (fit_in_range (rows_of (found_of c.args.found.now)) c.requires)
