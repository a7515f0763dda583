use Rattle.std.proofs.Common.{◌∷◌, decimal, arith, length-append}
use Rattle.std.proofs.lemmas.Fmt.{length-decimal-le}
use Rattle.line_proto.proofs.reply.push_guarded.Goals as goal

pub returns-in_err-push_words_and_number-clause-short : goal.returns-in_err-push_words_and_number-clause-short
returns-in_err-push_words_and_number-clause-short c =
    let slice = length-decimal-le 20 c.args.slice (omega arith) (omega arith) (omega arith) in
    let pass = length-decimal-le 20 c.args.pass (omega arith) (omega arith) (omega arith) in
    omega (arith, slice, pass, length-append (decimal c.args.slice) (32 ∷ decimal c.args.pass))
