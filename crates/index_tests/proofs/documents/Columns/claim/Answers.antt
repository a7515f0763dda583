use Rattle.std.proofs.Common.{Bool, false, List, get_or, ap, ◌∙◌}
use Rattle.std.proofs.lemmas.List.{get_or-replicate}
use Rattle.index_tests.proofs.documents.Columns.claim.Goals as goal

pub claim-requires-clause-there : goal.claim-requires-clause-there
claim-requires-clause-there c = ap (λ (xs : List Bool). get_or xs c.args.slice false) c.self.invariant.2 ∙ get_or-replicate 2 c.args.slice false false c.requires.0
