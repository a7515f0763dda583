use Rattle.std.proofs.Common.{refl}
use Rattle.row_layout.specs.DocumentBits.{bit_of_row}
use Rattle.row_layout.specs.Rows.{rows_of_word}
use Rattle.row_layout.proofs.Lists.{Contains-flat_map}
use Rattle.row_layout.proofs.laws.each_row_has_its_bit.Goals as goal

pub returns : goal.returns
returns c room config set slice column bits are word row has of_word =
    (are.exactly (bit_of_row room slice column row)).1
    (row, Contains-flat_map (rows_of_word config) set word row has of_word, refl)
