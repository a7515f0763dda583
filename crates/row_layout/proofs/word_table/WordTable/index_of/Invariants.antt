-- the slots so far are passed
use Rattle.row_layout.specs.WordTables.{home_of, spread_of}
use Rattle.row_layout.proofs.WordTables.{ArePassed}
use Rattle.row_layout.proofs.word_table.WordTable.index_of.Given as goal

abbrev pub invariant-loop-at : goal.invariant-loop-at
invariant-loop-at l = ArePassed l.words l.word l.self.slots.items (home_of l.self.mask (spread_of l.word)) l.at
