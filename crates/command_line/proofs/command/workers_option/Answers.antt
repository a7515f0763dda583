use Rattle.std.proofs.Common.{◌≡◌, ◌∙◌, ap, codes, true}
use Rattle.clap.specs.Words.{Rule, rule_of}
use Rattle.funnel_model.specs.declared.config.TheConstants.{MOST_PASSES}
use Rattle.command_line.specs.Commands.{number_option, numbers_between}
use Rattle.command_line.proofs.command.workers_option.Goals as goal

pub returns-clause-rule : goal.returns-clause-rule
returns-clause-rule c =
    let numbers : c.range-numbers.result ≡ numbers_between 1 MOST_PASSES = rw (c.value_parser.ensures, c.new.ensures.start, c.new.ensures.end, c.from.ensures) at c.range-numbers.ensures in
    ap rule_of c.required.ensures ∙ ap (λ (r : Rule). record r { required = true }) (c.number_option.ensures.rule ∙ ap (number_option (codes "workers")) numbers)
