use Rattle.std.proofs.Common.{arith}
use Rattle.line_proto.proofs.Lengths.{kept_short}
use Rattle.line_proto.proofs.reply.push_kept.Goals as goal

pub returns-in_err-push_words_and_number-clause-short : goal.returns-in_err-push_words_and_number-clause-short
returns-in_err-push_words_and_number-clause-short c = kept_short c.args.documents c.args.place c.args.base (omega arith) (omega arith) (omega arith)

pub returns-in_err-push_words_and_number-2-clause-short : goal.returns-in_err-push_words_and_number-2-clause-short
returns-in_err-push_words_and_number-2-clause-short c = kept_short c.args.documents c.args.place c.args.base (omega arith) (omega arith) (omega arith)
