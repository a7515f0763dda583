use Rattle.line_proto.proofs.Readings.{read-by-forms}
use Rattle.line_proto.proofs.laws.lines_are_read_by_the_grammar.Goals as goal

pub returns : goal.returns
returns c = read-by-forms
