use Rattle.std.proofs.Common.{◌↔◌, IsTrue, subst}
use Rattle.document_store.specs.Documents.{HasEvery, Parts}
use Rattle.document_store.proofs.doc.verify.Goals as goal

pub returns-then-saturating_mul-len : goal.returns-then-saturating_mul-len
returns-then-saturating_mul-len c = subst (λ (d : Parts). IsTrue c.has_each.result ↔ HasEvery d.words c.args.words.now) c.doc.view_is c.has_each.ensures

pub returns-else-saturating_mul-len : goal.returns-else-saturating_mul-len
returns-else-saturating_mul-len c = subst (λ (d : Parts). IsTrue c.has_all.result ↔ HasEvery d.words c.args.words.now) c.doc.view_is c.has_all.ensures
