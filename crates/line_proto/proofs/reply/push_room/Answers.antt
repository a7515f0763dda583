use Rattle.std.proofs.Common.{arith}
use Rattle.line_proto.proofs.Lengths.{room_short}
use Rattle.line_proto.proofs.reply.push_room.Goals as goal

pub returns-in_err-push_words_and_number-clause-short : goal.returns-in_err-push_words_and_number-clause-short
returns-in_err-push_words_and_number-clause-short c =
    room_short c.args.columns c.args.free c.args.retired c.args.finds (omega arith) (omega arith) (omega arith) (omega arith)

pub returns-in_err-push_words_and_number-2-clause-short : goal.returns-in_err-push_words_and_number-2-clause-short
returns-in_err-push_words_and_number-2-clause-short c =
    room_short c.args.columns c.args.free c.args.retired c.args.finds (omega arith) (omega arith) (omega arith) (omega arith)

pub returns-in_err-push_words_and_number-3-clause-short : goal.returns-in_err-push_words_and_number-3-clause-short
returns-in_err-push_words_and_number-3-clause-short c =
    room_short c.args.columns c.args.free c.args.retired c.args.finds (omega arith) (omega arith) (omega arith) (omega arith)
