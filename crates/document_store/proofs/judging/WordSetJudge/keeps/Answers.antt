use Rattle.document_store.proofs.WordSets.{set-decides}
use Rattle.document_store.proofs.judging.WordSetJudge.keeps.Goals as goal

pub returns : goal.returns
returns c = set-decides c.args.doc.now.words c.args.self.now c.args.doc.now.text c.verify.result c.words.ensures.of_text c.verify.ensures
