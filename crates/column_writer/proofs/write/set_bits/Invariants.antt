use Rattle.std.proofs.Common.{take}
use Rattle.column_writer.specs.Written.{SetsBits}
use Rattle.column_writer.proofs.write.set_bits.Given as goal

-- so many bits are set, and nothing else changed
abbrev pub invariant-loop-b : goal.invariant-loop-b
invariant-loop-b l = SetsBits l.initial.seat l.seat (take l.b-index l.bits)
