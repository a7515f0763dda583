use Rattle.std.proofs.Common.{◌∙◌, arith}
use Rattle.std.proofs.lemmas.Bool.Decides.{not_from_Decides}
use Rattle.std.proofs.lemmas.Str.Pattern.{starts_char}
use Rattle.line_proto.proofs.Numbers.{number_of-plain}
use Rattle.line_proto.proofs.parse.parse_number.Goals as goal

pub returns : goal.returns
returns c =
    let word = c.args.word.now in
    let plain = not_from_Decides c.starts_with.result (starts_char 43 word c.starts_with.result c.starts_with.ensures.cases (omega arith) (omega arith)) c.if-starts_with.false in
    c.ok.ensures.value ∙ number_of-plain word c.parse.result c.parse.ensures.value.0 plain c.if-word-gt-MAX_DIGITS.false
