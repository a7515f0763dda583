use Rattle.std.proofs.Common.{Some, subst, ◌≡◌, ◌∙◌, ap, codes, [], ◌∷◌}
use Rattle.clap.specs.Words.{Rule, rule_of}
use Rattle.std.specs.Prelude.{ℤ, pos}
use Rattle.clap.specs.Values.{NarrowsTo}
use Rattle.clap.specs.declared.builder.value_parser.ValueParser.{ValueParser}
use Rattle.clap.specs.declared.builder.value_parser.ValueParser.TheVariants as vp
use Rattle.command_line.specs.declared.command.TheConstants.{MOST_CONNECTIONS}
use Rattle.command_line.specs.Commands.{number_option}
use Rattle.command_line.proofs.command.connections_option.Goals as goal

-- the numbers from 1 to the most connections, as the parser of a number of 64 bits is narrowed
narrowed : (parser : ValueParser) (first last : ℤ) (result : ValueParser) → parser ≡ vp.Unsigned 0 18446744073709551615 → first ≡ pos 1 → last ≡ pos MOST_CONNECTIONS →
    NarrowsTo parser (Some first) (Some last) result → result ≡ vp.Unsigned 1 MOST_CONNECTIONS
narrowed parser first last result parser_is first_is last_is narrows =
    subst (λ (n : ℤ). NarrowsTo (vp.Unsigned 0 18446744073709551615) (Some (pos 1)) (Some n) result) last_is
    (subst (λ (n : ℤ). NarrowsTo (vp.Unsigned 0 18446744073709551615) (Some n) (Some last) result) first_is
    (subst (λ (p : ValueParser). NarrowsTo p (Some first) (Some last) result) parser_is narrows))

pub returns-clause-rule : goal.returns-clause-rule
returns-clause-rule c =
    let numbers : c.range-numbers.result ≡ vp.Unsigned 1 MOST_CONNECTIONS = narrowed _ _ _ c.range-numbers.result c.value_parser.ensures c.new.ensures.start c.new.ensures.end c.range-numbers.ensures in
    ap rule_of c.default_value.ensures
    ∙ ap (λ (r : Rule). record r { defaults = codes "4294967296" ∷ [] }) (c.number_option.ensures.rule ∙ ap (number_option (codes "connections")) numbers)
