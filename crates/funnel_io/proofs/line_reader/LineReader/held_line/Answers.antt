use Rattle.std.proofs.Common.{refl}
use Rattle.funnel_io.proofs.LineLaws.{line_at_newline}
use Rattle.funnel_io.proofs.line_reader.LineReader.held_line.Goals as goal

pub returns-then-take_line-clause-line : goal.returns-then-take_line-clause-line
returns-then-take_line-clause-line c =
    rw (← c.self.view_is)
    (line_at_newline _ _ c.take_line.new.self.line c.take_line.new.self.bytes c.judge-line.result
    (rw c.line.ensures at c.judge-line.ensures.judged) c.if-take_line.ensures.bytes c.if-take_line.ensures.clean refl)
