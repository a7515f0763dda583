-- There is a text for each end.
use Rattle.std.proofs.Common.{rules, ◌≡◌, length, string_bytes, ap, sym, ◌∙◌, List, ℕ}
use Rattle.funnel_model.proofs.WordSetLemmas.{length-pieces}
use Rattle.load_gen.proofs.load.Load.docs.Goals as goal

pub returns-clause-count : goal.returns-clause-count
returns-clause-count c =
    let ends : c.len.result ≡ length c.self.inside.ends.items = search (rules, c.len.ensures) in
    ends ∙ sym (length-pieces 0 c.self.inside.ends.items (string_bytes c.self.inside.texts)) ∙ ap (λ (ws : List (List ℕ)). length ws) c.self.view_is
