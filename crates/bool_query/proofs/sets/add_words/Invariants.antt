-- the words that came so far stand behind those before
use Rattle.std.proofs.Common.{◌≡◌, ◌++◌, map}
use Rattle.bool_query.proofs.sets.add_words.Given as goal

abbrev pub invariant-loop-word : goal.invariant-loop-word
invariant-loop-word l = map (λ w. w.now) l.words.items ≡ map (λ w. w.now) l.fn.words.items ++ map (λ w. w.now) l.yielded
