-- The next word ends within the buffer.
use Rattle.std.proofs.Common.{rules, ◌≡◌, ◌∷◌, length, subst}
use Rattle.funnel_model.specs.WordSets.{EndAt}
use Rattle.funnel_model.proofs.WordSetLemmas.{start_within}
use Rattle.funnel_model.proofs.word_set.WordsIterator.next.Goals as goal

pub between-word-requires-clause-within : goal.between-word-requires-clause-within
between-word-requires-clause-within c =
    let is : c.self.inside.ends.now ≡ c.in_ok-first.first.now ∷ c.in_ok-first.rest.now = search rules in
    let first : EndAt c.self.inside.start (c.in_ok-first.first.now ∷ c.in_ok-first.rest.now) (length c.self.inside.buffer.now) =
    subst (λ ends. EndAt c.self.inside.start ends (length c.self.inside.buffer.now)) is c.self.invariant in
    start_within _ _ _ first.1
