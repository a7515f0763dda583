-- There is a word for each end.
use Rattle.std.proofs.Common.{rules, ◌≡◌, length, ap, sym, ◌∙◌, List, ℕ}
use Rattle.funnel_model.proofs.WordSetLemmas.{length-pieces}
use Rattle.funnel_model.proofs.word_set.WordSet.len.Goals as goal

pub returns-clause-count : goal.returns-clause-count
returns-clause-count c =
    let ends : c.len.result ≡ length c.self.inside.ends.items = search (rules, c.len.ensures) in
    ends ∙ sym (length-pieces 0 c.self.inside.ends.items c.self.inside.buffer.items) ∙ ap (λ (ws : List (List ℕ)). length ws) c.self.view_is
