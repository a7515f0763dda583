use Rattle.std.specs.List.{All}
use Rattle.funnel_io.specs.MemGates.{IsUnused}
use Rattle.program_tests.proofs.gates.conns_of.Given as goal

-- the connections so far are unused
abbrev pub invariant-loop-conn : goal.invariant-loop-conn
invariant-loop-conn l = All IsUnused l.waiting.items
