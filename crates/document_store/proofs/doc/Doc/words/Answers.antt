use Rattle.std.proofs.Common.{subst}
use Rattle.funnel_model.specs.Words.{AreWordsOf}
use Rattle.document_store.specs.Documents.{Parts}
use Rattle.document_store.proofs.doc.Doc.words.Goals as goal

pub returns-clause-of_text : goal.returns-clause-of_text
returns-clause-of_text c = subst (λ (p : Parts). AreWordsOf p.words p.text) c.self.view_is c.self.invariant
