use Rattle.row_layout.proofs.Owners.{owned-tells, owned-tells-documents}
use Rattle.row_layout.proofs.laws.owned_bits_tell_words.Goals as goal

pub returns-clause-bits : goal.returns-clause-bits
returns-clause-bits c = owned-tells

pub returns-clause-documents : goal.returns-clause-documents
returns-clause-documents c = owned-tells-documents
