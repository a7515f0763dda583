use Rattle.std.proofs.Common.{arith}
use Rattle.std.proofs.lemmas.Fmt.{length-decimal-le}
use Rattle.line_proto.proofs.reply.push_words_and_number.Goals as goal

pub returns-in_err-extend_from_slice-clause-digits : goal.returns-in_err-extend_from_slice-clause-digits
returns-in_err-extend_from_slice-clause-digits c = length-decimal-le 20 c.args.number (omega arith) (omega arith) (omega arith)
