use Rattle.std.proofs.Common.{◌≡◌, ◌*◌, ◌++◌}
use Rattle.rank_matcher.specs.Appended.{candidates_of}
use Rattle.rank_matcher.specs.Walk.{has_column, passing}
use Rattle.rank_matcher.proofs.words.push_words.Given as goal

-- the columns of the words before this one are candidates
abbrev pub invariant-loop-word : goal.invariant-loop-word
invariant-loop-word l = l.out ≡ l.fn.out ++ candidates_of l.slice (passing (has_column l.running) (64 * l.from) (64 * l.word))
