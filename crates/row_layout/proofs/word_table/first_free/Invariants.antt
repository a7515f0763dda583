-- no slot so far is free
use Rattle.std.proofs.Common.{◌-◌, ◌≤◌, length}
use Rattle.row_layout.specs.WordTables.{AreTaken, HasFreeSlot}
use Rattle.row_layout.proofs.word_table.first_free.Given as goal

abbrev pub invariant-loop-at : goal.invariant-loop-at
invariant-loop-at l = record {
  after : l.from ≤ l.at;
  room : HasFreeSlot l.slots l.at;
  taken : AreTaken l.slots l.from l.at;
}

abbrev pub decreases-loop-at : goal.decreases-loop-at
decreases-loop-at l = length l.slots - l.at
