use Rattle.std.proofs.Common.{arith, codes}
use Rattle.std.proofs.lemmas.Result.{on_ok_weaker}
use Rattle.http_front.specs.Responses.{numbered}
use Rattle.http_front.proofs.ResponseLaws.{four_appended, room_short}
use Rattle.http_front.proofs.measures.push_room.Goals as goal

pub returns-in_err-push_numbered-clause-short : goal.returns-in_err-push_numbered-clause-short
returns-in_err-push_numbered-clause-short c = room_short c.args.columns c.args.free c.args.retired c.args.finds (omega arith) (omega arith) (omega arith) (omega arith)

pub returns-in_err-push_numbered-2-clause-short : goal.returns-in_err-push_numbered-2-clause-short
returns-in_err-push_numbered-2-clause-short c = room_short c.args.columns c.args.free c.args.retired c.args.finds (omega arith) (omega arith) (omega arith) (omega arith)

pub returns-in_err-push_numbered-3-clause-short : goal.returns-in_err-push_numbered-3-clause-short
returns-in_err-push_numbered-3-clause-short c = room_short c.args.columns c.args.free c.args.retired c.args.finds (omega arith) (omega arith) (omega arith) (omega arith)

pub returns-clause-short : goal.returns-clause-short
returns-clause-short c = room_short c.args.columns c.args.free c.args.retired c.args.finds (omega arith) (omega arith) (omega arith) (omega arith)

pub returns-clause-ok : goal.returns-clause-ok
returns-clause-ok c =
    on_ok_weaker c.push_numbered-4.result
    (λ last. four_appended c.args.out.now.items (numbered (codes ",\"columns\":") c.args.columns) (numbered (codes ",\"free\":") c.args.free) (numbered (codes ",\"retired\":") c.args.retired) (numbered (codes ",\"finds\":") c.args.finds) _ _ _ _
    c.in_ok-push_numbered.ensures.ok c.in_ok-push_numbered-2.ensures.ok c.in_ok-push_numbered-3.ensures.ok last)
    c.push_numbered-4.ensures.ok
