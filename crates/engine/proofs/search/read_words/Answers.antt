use Rattle.std.proofs.Common.{◌-◌, ◌^◌, ◌∙◌, ap, map, min, subst, sum, sym}
use Rattle.bool_query.proofs.Trees.{tree-atom}
use Rattle.engine.proofs.Answered.{search_of_words}
use Rattle.engine.specs.Searches.{IsSearchOf}
use Rattle.engine.specs.WordExprs.{cost_of}
use Rattle.funnel_model.specs.declared.expr.Expr.TheVariants as variants
use Rattle.funnel_model.specs.Expressions.{Tree}
use Rattle.engine.proofs.search.read_words.Goals as goal

pub returns-clause-read : goal.returns-clause-read
returns-clause-read c =
    let text = c.args.text.now in
    let made = c.of_words.ensures in
    let words = c.in-Ok.ensures in (
      variants.Atom text,
      tree-atom text,
      subst (λ (t : Tree). IsSearchOf c.of_words.result t) (sym (tree-atom text)) (search_of_words c.of_words.result text c.in-Ok.words made.words made.residue words),
    )

-- no word of an expression is looked for
pub returns-clause-cost : goal.returns-clause-cost
returns-clause-cost c = c.of_words.ensures.cost ∙ sym (ap (λ es. min (sum (map cost_of es)) (2 ^ 64 - 1)) c.of_words.ensures.residue)
