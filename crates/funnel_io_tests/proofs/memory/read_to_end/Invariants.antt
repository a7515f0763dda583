use Rattle.funnel_io.specs.Streams.{Takes}
use Rattle.funnel_io_tests.proofs.memory.read_to_end.Given as goal

-- what was taken so far
abbrev pub invariant-loop : goal.invariant-loop
invariant-loop g l = Takes l.all.items (g.S.Source.incoming l.fn.source) (g.S.Source.incoming l.source)
