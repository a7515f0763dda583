-- the words so far stand in the table
use Rattle.row_layout.specs.WordTables.{HoldsFirst}
use Rattle.row_layout.proofs.word_table.WordTable.new.Given as goal

abbrev pub invariant-loop-index : goal.invariant-loop-index
invariant-loop-index l = HoldsFirst l.words l.index l.mask l.slots.items
