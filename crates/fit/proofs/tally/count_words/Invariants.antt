use Rattle.std.proofs.Common.{map}
use Rattle.fit.specs.Steps.{CountsMore, entries_of}
use Rattle.fit.proofs.tally.count_words.Given as goal

-- the words that came so far are counted
abbrev pub invariant-loop-word : goal.invariant-loop-word
invariant-loop-word l = CountsMore (entries_of l.fn.counts.entries) (entries_of l.counts.entries) (map (λ word. word.now) l.yielded)
