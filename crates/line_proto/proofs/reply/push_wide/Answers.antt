use Rattle.std.proofs.Common.{◌∷◌, decimal, arith, length-append}
use Rattle.std.proofs.lemmas.Fmt.{length-decimal-le}
use Rattle.line_proto.proofs.reply.push_wide.Goals as goal

pub returns-in_err-push_words_and_number-clause-short : goal.returns-in_err-push_words_and_number-clause-short
returns-in_err-push_words_and_number-clause-short c =
    let needed = length-decimal-le 20 c.args.needed (omega arith) (omega arith) (omega arith) in
    let room = length-decimal-le 20 c.args.room (omega arith) (omega arith) (omega arith) in
    omega (arith, needed, room, length-append (decimal c.args.needed) (32 ∷ decimal c.args.room))
