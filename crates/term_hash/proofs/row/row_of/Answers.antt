use Rattle.std.proofs.Common.{ap, ◌∙◌}
use Rattle.term_hash.specs.Hash.{row_number}
use Rattle.term_hash.proofs.row.row_of.Goals as goal

pub returns-clause-exact : goal.returns-clause-exact
returns-clause-exact c = c.row.ensures.exact c.args.word.now c.new.ensures ∙ ap (row_number c.args.word.now c.args.j) c.new-2.ensures
