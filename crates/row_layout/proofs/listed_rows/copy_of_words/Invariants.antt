use Rattle.std.proofs.Common.{◌≡◌, map, take}
use Rattle.funnel_model.specs.Listed.{listed_pair}
use Rattle.row_layout.proofs.listed_rows.copy_of_words.Given as goal

-- the words so far
abbrev pub invariant-loop-word : goal.invariant-loop-word
invariant-loop-word l = map listed_pair l.copy.items ≡ map listed_pair (take l.word-index l.word-items)
