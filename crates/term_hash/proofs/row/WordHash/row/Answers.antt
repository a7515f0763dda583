-- The row that the hash tells is that of the word.
use Rattle.std.proofs.Common.{◌%◌, ap, ◌∙◌}
use Rattle.term_hash.specs.Hash.{mixed}
use Rattle.term_hash.proofs.HashLemmas.{row_number-step}
use Rattle.term_hash.proofs.row.WordHash.row.Goals as goal

pub returns-clause-exact : goal.returns-clause-exact
returns-clause-exact c word is =
    c.remainder.ensures.value
    ∙ ap (λ hash. hash % c.args.rows.now) (c.mix.ensures ∙ ap mixed c.take_in.ensures)
    ∙ row_number-step word c.args.j c.args.rows.now c.self.inside.hash (c.self.view_is ∙ is)
