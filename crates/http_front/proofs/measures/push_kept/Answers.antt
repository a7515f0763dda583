use Rattle.std.proofs.Common.{arith, codes}
use Rattle.std.proofs.lemmas.Result.{on_ok_weaker}
use Rattle.http_front.specs.Responses.{numbered}
use Rattle.http_front.proofs.ResponseLaws.{appended, kept_short}
use Rattle.http_front.proofs.measures.push_kept.Goals as goal

pub returns-in_err-push_numbered-clause-short : goal.returns-in_err-push_numbered-clause-short
returns-in_err-push_numbered-clause-short c = kept_short c.args.documents c.args.place c.args.base (omega arith) (omega arith) (omega arith)

pub returns-in_err-push_numbered-2-clause-short : goal.returns-in_err-push_numbered-2-clause-short
returns-in_err-push_numbered-2-clause-short c = kept_short c.args.documents c.args.place c.args.base (omega arith) (omega arith) (omega arith)

pub returns-clause-short : goal.returns-clause-short
returns-clause-short c = kept_short c.args.documents c.args.place c.args.base (omega arith) (omega arith) (omega arith)

pub returns-clause-ok : goal.returns-clause-ok
returns-clause-ok c =
    on_ok_weaker c.push_numbered-3.result
    (λ last. appended c.args.out.now.items (numbered (codes "{\"documents\":") c.args.documents) (numbered (codes ",\"place\":") c.args.place) (numbered (codes ",\"base\":") c.args.base) _ _ _ c.in_ok-push_numbered.ensures.ok c.in_ok-push_numbered-2.ensures.ok last)
    c.push_numbered-3.ensures.ok
