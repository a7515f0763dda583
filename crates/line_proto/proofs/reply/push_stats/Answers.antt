use Rattle.std.proofs.Common.{arith, length-append}
use Rattle.line_proto.specs.Texts.{kept_numbers, room_numbers}
use Rattle.line_proto.proofs.Lengths.{room_short}
use Rattle.line_proto.proofs.reply.push_stats.Goals as goal

pub returns-in_err-push_kept-clause-short : goal.returns-in_err-push_kept-clause-short
returns-in_err-push_kept-clause-short c =
    let s = c.args.stats.now in
    let room = room_short s.columns s.free s.retired s.finds (omega arith) (omega arith) (omega arith) (omega arith) in
    omega (arith, c.push_kept.ensures.short, room, length-append (kept_numbers s.documents s.place s.base) (room_numbers s.columns s.free s.retired s.finds))
