use Rattle.std.proofs.Common.{ℕ, List, sym, subst}
use Rattle.funnel_model.specs.Words.{AreWordsOf}
use Rattle.document_store.proofs.doc.Doc.copy.Goals as goal

pub invariant_of-result : goal.invariant_of-result
invariant_of-result c =
    subst (λ (ws : List (List ℕ)). AreWordsOf ws c.in_ok-copy.field-0) (sym c.in_ok-copy-2.ensures)
    (subst (λ (text : List ℕ). AreWordsOf c.self.inside.words text) (sym c.in_ok-copy.ensures) c.self.invariant)
