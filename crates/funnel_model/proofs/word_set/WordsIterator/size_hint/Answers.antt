-- There is a word for each end that is left.
use Rattle.std.proofs.Common.{◌≡◌, length, ap, sym, ◌∙◌, List, ℕ, arith}
use Rattle.funnel_model.proofs.WordSetLemmas.{length-pieces}
use Rattle.funnel_model.proofs.word_set.WordsIterator.size_hint.Goals as goal

pub returns-clause-lower : goal.returns-clause-lower
returns-clause-lower c =
    let is : length c.args.self.now ≡ length c.self.inside.ends.now = ap (λ (ws : List (List ℕ)). length ws) (sym c.self.view_is) ∙ length-pieces c.self.inside.start c.self.inside.ends.now c.self.inside.buffer.now in
    λ _. omega (arith, is)

pub returns-clause-upper : goal.returns-clause-upper
returns-clause-upper c =
    let is : length c.args.self.now ≡ length c.self.inside.ends.now = ap (λ (ws : List (List ℕ)). length ws) (sym c.self.view_is) ∙ length-pieces c.self.inside.start c.self.inside.ends.now c.self.inside.buffer.now in
    (tt, omega (arith, is))
