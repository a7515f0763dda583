use Rattle.std.proofs.Common.{ap, refl, ◌∙◌}
use Rattle.line_proto.specs.Forms.{number_of}
use Rattle.http_front.proofs.NumberLaws.{number_of-no_text}
use Rattle.http_front.proofs.numbers.read_number.Goals as goal

pub returns-in_default : goal.returns-in_default
returns-in_default c = number_of-no_text c.args.word.now (number_of c.args.word.now) refl c.in_default.ensures.cases.0

pub returns : goal.returns
returns c = c.parse_number.ensures ∙ ap number_of c.in-Ok.ensures.cases.0
