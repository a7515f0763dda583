use Rattle.std.proofs.Common.{codes}
use Rattle.line_proto.proofs.Replies.{on_ok-appended}
use Rattle.line_proto.proofs.reply.push_message.Goals as goal

pub returns-in-Full-clause-ok : goal.returns-in-Full-clause-ok
returns-in-Full-clause-ok c =
    rw c.in-Full.is (on_ok-appended c.extend_from_slice.result _ c.args.out.now.items (codes "refused full") c.extend_from_slice.ensures.items)

pub returns-in-Line-clause-ok : goal.returns-in-Line-clause-ok
returns-in-Line-clause-ok c =
    rw c.in-Line.is (on_ok-appended c.extend_from_slice-in-Line.result _ c.args.out.now.items (codes "refused line") c.extend_from_slice-in-Line.ensures.items)
