use Rattle.std.proofs.Common.{◌∙◌, ap, codes, [], ◌∷◌}
use Rattle.clap.specs.Words.{Rule, rule_of}
use Rattle.command_line.specs.Commands.{number_option}
use Rattle.command_line.proofs.command.seed_option.Goals as goal

pub returns-clause-rule : goal.returns-clause-rule
returns-clause-rule c =
    ap rule_of c.default_value.ensures
    ∙ ap (λ (r : Rule). record r { defaults = codes "0" ∷ [] }) (c.number_option.ensures.rule ∙ ap (number_option (codes "seed")) c.value_parser.ensures)
