use Rattle.std.proofs.Common.{ℕ, List, get_or, ap, ◌∙◌}
use Rattle.std.proofs.lemmas.List.{get_or-map}
use Rattle.row_layout.specs.Layouts.{LayoutId, word_rows}
use Rattle.row_layout.specs.declared.word_rows.WordRows.{WordRows}
use Rattle.row_layout.proofs.Listing.{word_rows-unlisted}
use Rattle.row_layout.proofs.layout.Layout.look_up.Goals as goal

pub returns-in-Some-clause-value : goal.returns-in-Some-clause-value
returns-in-Some-clause-value c =
    let config = c.self.inside.config in
    let entry : List ℕ × ℕ = (c.args.word.now, 0) in
    let rows : List ℕ × ℕ → WordRows = λ e. word_rows config e.0 in
    let found = c.in-Some.ensures.found in
    c.index.ensures
    ∙ ap (λ (listed : List WordRows). get_or listed c.in-Some.index c.index.result.now) c.self.invariant.listed_are
    ∙ get_or-map rows config.words c.in-Some.index entry c.index.result.now found.within
    ∙ ap (word_rows config) (found.is entry)
    ∙ ap (λ (l : LayoutId). word_rows l.config c.args.word.now) c.self.view_is

pub returns-in-None-clause-value : goal.returns-in-None-clause-value
returns-in-None-clause-value c =
    word_rows-unlisted c.self.inside.config c.args.word.now c.in-None.ensures.none
    ∙ ap (λ (l : LayoutId). word_rows l.config c.args.word.now) c.self.view_is
