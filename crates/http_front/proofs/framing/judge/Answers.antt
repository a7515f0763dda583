use Rattle.http_front.proofs.JudgeLaws.{judged_more, judged_refused, judged_whole}
use Rattle.http_front.proofs.framing.judge.Goals as goal

pub returns-in-Err : goal.returns-in-Err
returns-in-Err c =
    judged_refused c.args.bytes.now c.args.first.now c.args.fields.now c.args.head.now c.requires.first c.requires.head.0 c.requires.head.1 c.in-Err.cause c.in-Err.ensures

pub returns-then-bytes-end : goal.returns-then-bytes-end
returns-then-bytes-end c =
    judged_more c.args.bytes.now c.args.first.now c.args.fields.now c.args.head.now c.requires.first c.requires.head.0 c.requires.head.1 c.in-Ok.length c.in-Ok.ensures
    c.if-bytes-end.true

pub returns : goal.returns
returns c =
    judged_whole c.args.bytes.now c.args.first.now c.args.fields.now c.args.head.now c.requires.first c.requires.head.0 c.requires.head.1 c.in-Ok.length c.in-Ok.ensures
    c.if-bytes-end.false c.closes_with.result c.closes_with.ensures
