use Rattle.std.proofs.Common.{arith}
use Rattle.std.proofs.lemmas.Fmt.{length-decimal-le}
use Rattle.line_proto.proofs.reply.push_number.Goals as goal

pub returns-clause-digits : goal.returns-clause-digits
returns-clause-digits c = length-decimal-le 20 c.args.number (omega arith) (omega arith) (omega arith)
