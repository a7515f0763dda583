use Rattle.std.proofs.Common.{◌∙◌, ◌&&◌, sym, ap}
use Rattle.funnel_model.proofs.WordExprLemmas.{each-kept}
use Rattle.funnel_model.specs.Searches.{all_of, is_kept}
use Rattle.funnel_model.specs.WordExprs.{each_searched}
use Rattle.engine.proofs.doubt.DoubtJudge.keeps.Goals as goal

pub returns-then-keeps : goal.returns-then-keeps
returns-then-keeps c =
    let text = c.args.doc.now.text in
    let residue = c.args.self.now.residue.now in
    c.each_is_kept.ensures ∙ sym (each-kept residue text) ∙ ap (λ b. b && is_kept (all_of (each_searched residue)) text) (sym c.if-keeps.true ∙ c.keeps.ensures)
