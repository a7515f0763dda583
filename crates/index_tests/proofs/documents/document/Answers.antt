use Rattle.std.proofs.Common.{sym, subst}
use Rattle.funnel_model.specs.Words.{AreWordsOf}
use Rattle.index_tests.proofs.documents.document.Goals as goal

pub new-requires : goal.new-requires
new-requires c = subst (AreWordsOf c.in_ok-words.words) (sym c.in_ok-copied.ensures) c.in_ok-words.ensures
